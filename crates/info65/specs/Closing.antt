-- The fault of a group at its closing brace.
use Rattle.std.specs.Prelude.{List, Option, Some, None, Result, Ok, Err, if◌then◌else◌}
use Rattle.std.specs.List.{list_any}
use Rattle.info65.specs.Groups.{AssignmentView, GroupView}
use Rattle.info65.specs.IncludeGroups.{include_in}
use Rattle.info65.specs.Labels.{label_in, name_fault, names_said, range_name}
use Rattle.info65.specs.Ranges.{overlaps, range_in, ranges_of}
use Rattle.info65.specs.Segments.{meets, segment_in, segments_of}
use Rattle.info65.specs.Views.{IncludeView, NameView, SegmentView}
use Rattle.info65.specs.Types.{GroupKind, InfoFaultKind, RangeSpec, RangesOverlap, SegmentsOverlap}
use Rattle.info65.specs.declared.syntax.attribute.GroupKind.TheVariants as group

abbrev pub optional_name_fault : List NameView → Option NameView → Option InfoFaultKind
optional_name_fault names None = None
optional_name_fault names (Some n) = name_fault names n

-- A group RANGE has the fault that it has by itself, or else it overlaps a range before it, or else its
-- name has a fault.
abbrev pub range_fault : List RangeSpec → List NameView → List AssignmentView → Result RangeSpec InfoFaultKind → Option InfoFaultKind
range_fault ranges names given (Err f) = Some f
range_fault ranges names given (Ok r) = if list_any (overlaps r) ranges then Some RangesOverlap else optional_name_fault names (range_name given r)

-- a group LABEL has the fault that it has by itself, or else its name has a fault
abbrev pub label_fault : List NameView → Result NameView InfoFaultKind → Option InfoFaultKind
label_fault names (Err f) = Some f
label_fault names (Ok n) = name_fault names n

-- a group SEGMENT has the fault that it has by itself, or else it overlaps a segment before it
abbrev pub segment_fault : List SegmentView → Result SegmentView InfoFaultKind → Option InfoFaultKind
segment_fault segments (Err f) = Some f
segment_fault segments (Ok s) = if list_any (meets s) segments then Some SegmentsOverlap else None

-- a group ASMINC has the fault that it has by itself
abbrev pub include_fault : Result IncludeView InfoFaultKind → Option InfoFaultKind
include_fault (Err f) = Some f
include_fault (Ok i) = None

-- the fault of a group after those before it; a group GLOBAL needs nothing
unfoldable pub closing_fault : List GroupView → GroupKind → List AssignmentView → Option InfoFaultKind
closing_fault before group.Global given = None
closing_fault before group.Range given = range_fault (ranges_of before) (names_said before) given (range_in given)
closing_fault before group.Label given = label_fault (names_said before) (label_in given)
closing_fault before group.Segment given = segment_fault (segments_of before) (segment_in given)
closing_fault before group.Include given = include_fault (include_in given)
