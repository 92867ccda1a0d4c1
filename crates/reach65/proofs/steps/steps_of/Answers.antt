use Rattle.std.proofs.Common.{arith, rules}
use Rattle.reach65.proofs.StepsLemmas.{steps_first, steps_more}
use Rattle.reach65.proofs.steps.steps_of.Goals as goal

pub image-init : goal.image-init
image-init c = steps_first _ _ (search rules)

pub image-preserved : goal.image-preserved
image-preserved c = steps_more _ _ _ _ _ _ (grind arith) (grind arith) c.step_at.ensures c.image.invariant
