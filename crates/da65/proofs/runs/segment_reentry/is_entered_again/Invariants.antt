use Rattle.da65.specs.Words.{AreEnteredBefore}
use Rattle.da65.proofs.runs.segment_reentry.is_entered_again.Given as goal

abbrev pub invariant-loop-at : goal.invariant-loop-at
invariant-loop-at g l = AreEnteredBefore l.map l.at l.entered
