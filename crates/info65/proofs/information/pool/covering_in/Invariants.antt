use Rattle.std.proofs.Common.{◌≡◌, ◌≤◌, map, length}
use Rattle.info65.specs.Words.{covering, covering_below, entry_seen}
use Rattle.info65.proofs.information.pool.covering_in.Given as goal

abbrev pub invariant-left : goal.invariant-left
invariant-left l = record {
  low : l.left ≤ length l.entries;
  same : covering_below (map (entry_seen l.pool) l.entries) l.left l.address ≡ covering (map (entry_seen l.pool) l.entries) l.address;
}

abbrev pub decreases-left : goal.decreases-left
decreases-left l = l.left
