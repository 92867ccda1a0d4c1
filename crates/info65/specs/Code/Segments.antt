-- What contracts see of a segment.
use Rattle.std.specs.Prelude.{List, map}
use Rattle.info65.specs.Views.{SegmentView}
use Rattle.info65.specs.Types.{SegmentParts, SegmentSpec}

abbrev pub segment_seen : {Z : Type 0} → SegmentSpec Z → SegmentView
segment_seen s = record { first = s.first; last = s.last; name = s.name.items }

abbrev pub segments_seen : {Z : Type 0} → List (SegmentSpec Z) → List SegmentView
segments_seen segments = map segment_seen segments

abbrev pub parts_seen : SegmentParts → SegmentView
parts_seen s = record { first = s.first; last = s.last; name = s.name.now }
