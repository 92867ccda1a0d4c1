use Rattle.map65.specs.Words.{Changes, is_referenced_below, with_name}
use Rattle.map65.proofs.naming.mark_targets.Given as goal

abbrev pub invariant-loop-k : goal.invariant-loop-k
invariant-loop-k g l = Changes with_name (is_referenced_below l.mapped l.k) l.fn.cells l.cells
