use Rattle.std.proofs.Common.{take}
use Rattle.reach65.specs.Words.{Adds, is_given}
use Rattle.reach65.proofs.taken.taken_of.Given as goal

abbrev pub invariant-given : goal.invariant-given
invariant-given l = Adds (is_given (take l.range-index l.range-items)) l.code l.taken
