use Rattle.std.proofs.Common.{◌≡◌, ◌++◌, take}
use Rattle.trace65.specs.Words.{unshown_items}
use Rattle.trace65.proofs.unshown.put_items.Given as goal

abbrev pub invariant-addresses : goal.invariant-addresses
invariant-addresses l = l.out.items ≡ l.initial.out.items ++ unshown_items (take l.address-index l.addresses)
