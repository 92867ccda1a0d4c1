use Rattle.map65.proofs.ReadLemmas.{bound_after}
use Rattle.map65.proofs.reading.take_after.Goals as goal

pub returns-then-branch-clause-bound : goal.returns-then-branch-clause-bound
returns-then-branch-clause-bound g c = bound_after _ _ _ _ _ c.in_ok-pass_over.ensures.bound c.take_up_to.ensures.bound
