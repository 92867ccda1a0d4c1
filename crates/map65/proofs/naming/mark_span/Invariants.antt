use Rattle.std.proofs.Common.{◌≤◌, max}
use Rattle.map65.specs.Words.{Changes, is_within, with_name}
use Rattle.map65.proofs.naming.mark_span.Given as goal

abbrev pub invariant-loop-at : goal.invariant-loop-at
invariant-loop-at l = record {
  low : l.from ≤ l.at;
  upto : l.at ≤ max l.from l.to;
  marked : Changes with_name (is_within l.from l.at) l.fn.cells l.cells;
}
