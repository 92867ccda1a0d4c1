use Rattle.std.proofs.Common.{◌≤◌, drop, length}
use Rattle.map65.specs.Words.{ArePainted}
use Rattle.map65.proofs.marking.mark_roles.Given as goal

abbrev pub invariant-painting : goal.invariant-painting
invariant-painting g l = record {
  bound : l.left ≤ length l.ranges;
  painted : ArePainted l.image (drop l.left l.info.ranges) l.cells;
}

abbrev pub decreases-painting : goal.decreases-painting
decreases-painting g l = l.left
