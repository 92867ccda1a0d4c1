-- What calls say and add by tables of addresses.
use Rattle.std.specs.Prelude.{◌≡◌, ◌++◌, ◌∷◌, Bool, List, [], Option, option_map, option_to_list}
use Rattle.info65.specs.Closing.{range_fault, segment_fault}
use Rattle.info65.specs.Code.Index.{AreMarked, AreRanged}
use Rattle.info65.specs.Code.Segments.{parts_seen}
use Rattle.info65.specs.Groups.{AssignmentView, GroupView}
use Rattle.info65.specs.Ranges.{range_in, range_part, ranges_of}
use Rattle.info65.specs.Segments.{segment_in, segment_part, segments_of}
use Rattle.info65.specs.Views.{NameView, SegmentView}
use Rattle.info65.specs.Types.{InfoFaultKind, RangeSpec, SegmentParts}

-- the fault of a group RANGE after the ranges of the table and these names
abbrev pub IsRangeFault : List Bool → List NameView → List AssignmentView → Option InfoFaultKind → Type 0
IsRangeFault table names given fault = (ranges : List RangeSpec) → AreRanged ranges table → fault ≡ range_fault ranges names given (range_in given)

-- the fault of a group SEGMENT after the segments of the table
abbrev pub IsSegmentFault : List Bool → List AssignmentView → Option InfoFaultKind → Type 0
IsSegmentFault table given fault = (segments : List SegmentView) → AreMarked segments table → fault ≡ segment_fault segments (segment_in given)

-- the table has the ranges of one group more, which says this range or none
abbrev pub RangesToo : Option RangeSpec → List Bool → List Bool → Type 0
RangesToo range old new = (g : GroupView) → option_to_list range ≡ range_part g → (before : List GroupView) → AreRanged (ranges_of before) old → AreRanged (ranges_of (before ++ g ∷ [])) new

-- the table has the segments of one group more, which says this segment or none
abbrev pub SegmentsToo : Option SegmentParts → List Bool → List Bool → Type 0
SegmentsToo segment old new = (g : GroupView) → option_to_list (option_map parts_seen segment) ≡ segment_part g → (before : List GroupView) → AreMarked (segments_of before) old → AreMarked (segments_of (before ++ g ∷ [])) new
