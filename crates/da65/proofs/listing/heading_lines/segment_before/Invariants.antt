use Rattle.std.proofs.Common.{◌≡◌, ◌≤◌}
use Rattle.da65.specs.Words.{segment_before}
use Rattle.da65.proofs.listing.heading_lines.segment_before.Given as goal

abbrev pub invariant-skipped : goal.invariant-skipped
invariant-skipped g l = record {
  bound : l.left ≤ l.index;
  same : segment_before l.listed l.left ≡ segment_before l.listed l.index;
}

abbrev pub decreases-skipped : goal.decreases-skipped
decreases-skipped g l = l.left
