use Rattle.std.proofs.Common.{◌≡◌, ◌++◌, drop, map}
use Rattle.info65.specs.Words.{segment_seen}
use Rattle.files65.specs.Place.{start_of}
use Rattle.files65.proofs.place.filled_by.Given as goal

abbrev pub invariant-segments : goal.invariant-segments
invariant-segments l = record {
  starts : l.layout.starts ++ map start_of (map segment_seen (drop l.segment-index l.segments)) ≡ map start_of (map segment_seen l.segments);
  fill : l.layout.fill ≡ l.fill;
}
