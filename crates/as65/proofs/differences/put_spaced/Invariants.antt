use Rattle.std.proofs.Common.{◌≡◌, ◌++◌, flat_map, take}
use Rattle.as65.specs.Words.{spaced}
use Rattle.as65.proofs.differences.put_spaced.Given as goal

abbrev pub invariant-bytes : goal.invariant-bytes
invariant-bytes l = l.out.items ≡ l.initial.out.items ++ flat_map spaced (take l.byte-index l.bytes)
