use Rattle.std.proofs.Common.{◌≡◌, take}
use Rattle.trace65.proofs.check.are_same_includes.Given as goal

abbrev pub invariant-includes : goal.invariant-includes
invariant-includes l = take l.index l.a ≡ take l.index l.b
