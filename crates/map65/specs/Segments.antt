-- Segments: the segment of an address, and the borders between segments.
--
-- A border stands before the first address of each segment and after its last. The default segment has no name.
use Rattle.std.specs.Prelude.{◌+◌, ◌==◌, ◌||◌, ℕ, Bool, List, Option}
use Rattle.std.specs.List.{list_any}
use Rattle.info65.specs.Words.{SegmentView, segment_covering}
use Rattle.map65.specs.MapView.{MapView}

-- the name of the segment that the address belongs to; none outside all segments
unfoldable pub segment_at : MapView → ℕ → Option (List ℕ)
segment_at m a = segment_covering m.info.segments a

-- a border stands before the START of a segment, and one after its END
abbrev pub borders : SegmentView → ℕ → Bool
borders s a = s.first == a || s.last + 1 == a

-- a segment border stands between the address and the one before it
unfoldable pub is_border : List SegmentView → ℕ → Bool
is_border segments a = list_any (λ s. borders s a) segments
