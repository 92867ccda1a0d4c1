use Rattle.reach65.proofs.StepsLemmas.{AreStepsBelow}
use Rattle.reach65.proofs.steps.steps_of.Given as goal

abbrev pub invariant-image : goal.invariant-image
invariant-image l = AreStepsBelow l.flow l.k l.steps.items
