use Rattle.std.proofs.Common.{◌≡◌, ◌+◌, ◌≤◌}
use Rattle.map65.specs.Words.{end_of}
use Rattle.da65.specs.Words.{more_at}
use Rattle.da65.proofs.listing.grouping.more_at.Given as goal

abbrev pub invariant-items : goal.invariant-items
invariant-items g l = record {
  low : l.address ≤ l.at;
  high : l.at ≤ end_of l.map.image;
  same : l.at + more_at l.map l.left l.at ≡ l.address + more_at l.map l.limit l.address;
}

abbrev pub decreases-items : goal.decreases-items
decreases-items g l = l.left
