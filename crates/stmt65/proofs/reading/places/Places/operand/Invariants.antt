use Rattle.std.proofs.Common.{length}
use Rattle.stmt65.specs.Words.{GoesOver, parts_left}
use Rattle.stmt65.proofs.reading.places.Places.operand.Given as goal

abbrev pub invariant-parts : goal.invariant-parts
invariant-parts l = GoesOver l.fn.self l.self

abbrev pub decreases-parts : goal.decreases-parts
decreases-parts l = length (parts_left l.self)
