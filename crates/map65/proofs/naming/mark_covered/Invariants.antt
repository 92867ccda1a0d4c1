use Rattle.map65.specs.Words.{Changes, Reaches, is_covered_below, with_name}
use Rattle.map65.proofs.naming.mark_covered.Given as goal

abbrev pub invariant-loop-i : goal.invariant-loop-i
invariant-loop-i g l = record {
  marked : Changes with_name (is_covered_below l.info.names l.i) l.fn.cells l.cells;
  reaches : Reaches l.info.names l.i l.reach;
}
