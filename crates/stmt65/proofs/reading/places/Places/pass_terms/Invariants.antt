use Rattle.std.proofs.Common.{length, ◌≡◌}
use Rattle.stmt65.specs.Words.{GoesOver, parts_left}
use Rattle.stmt65.proofs.reading.places.Places.pass_terms.Given as goal

abbrev pub invariant-terms : goal.invariant-terms
invariant-terms l = GoesOver l.fn.self l.self × (l.to ≡ l.self.at)

abbrev pub decreases-terms : goal.decreases-terms
decreases-terms l = length (parts_left l.self)
