use Rattle.std.proofs.Common.{◌≤◌, length}
use Rattle.info65.specs.Words.{ReachTo}
use Rattle.info65.proofs.information.pool.most_reached.Given as goal

abbrev pub invariant-left : goal.invariant-left
invariant-left l = record {
  low : l.left ≤ length l.entries;
  own : l.reach ≤ l.most;
  block : ReachTo l.entries l.left (length l.entries) l.most;
}

abbrev pub decreases-left : goal.decreases-left
decreases-left l = l.left
