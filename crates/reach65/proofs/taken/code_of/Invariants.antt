use Rattle.map65.specs.Words.{is_marked}
use Rattle.reach65.specs.Words.{AreMarkedBy}
use Rattle.reach65.proofs.TakenLemmas.{code_in}
use Rattle.reach65.proofs.taken.code_of.Given as goal

abbrev pub invariant-image : goal.invariant-image
invariant-image l = AreMarkedBy (code_in l.steps.map (is_marked l.reached) l.k) l.code
