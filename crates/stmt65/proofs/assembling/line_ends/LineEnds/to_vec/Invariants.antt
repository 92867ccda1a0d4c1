use Rattle.std.proofs.Common.{◌≡◌, ◌++◌, length}
use Rattle.stmt65.specs.Words.{ends_left}
use Rattle.stmt65.proofs.assembling.line_ends.LineEnds.to_vec.Given as goal

abbrev pub invariant-ends : goal.invariant-ends
invariant-ends g l = l.ends.items ++ ends_left l.left ≡ l.self

abbrev pub decreases-ends : goal.decreases-ends
decreases-ends g l = length (ends_left l.left)
