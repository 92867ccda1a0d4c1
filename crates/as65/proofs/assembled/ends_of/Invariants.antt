use Rattle.std.proofs.Common.{◌≡◌, ◌++◌, length}
use Rattle.stmt65.specs.Words.{ends_left}
use Rattle.as65.proofs.assembled.ends_of.Given as goal

abbrev pub invariant-ends : goal.invariant-ends
invariant-ends l = l.found.items ++ ends_left l.left ≡ ends_left l.initial.left

abbrev pub decreases-ends : goal.decreases-ends
decreases-ends l = length (ends_left l.left)
