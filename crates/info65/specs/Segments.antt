-- Segments: their addresses, the segment of an address, what a group SEGMENT says, and what holds of all
-- segments of a file.
--
-- Both ends belong to a segment, and no address belongs to two.
use Rattle.std.specs.Prelude.{◌≡◌, ◌≤◌, ◌&&◌, ℕ, Bool, true, List, [], ◌∷◌, Option, Some, Result, Ok, Err, All, AllPairs, get_or, nat_le, option_map, if◌then◌else◌}
use Rattle.std.specs.List.{find, flat_map}
use Rattle.text65.specs.Names.{has_name_form}
use Rattle.info65.specs.Groups.{AssignmentView, GroupView, value_in}
use Rattle.info65.specs.Values.{as_address, as_name}
use Rattle.info65.specs.Views.{SegmentView}
use Rattle.info65.specs.declared.syntax.attribute.Attribute.TheVariants as attribute
use Rattle.info65.specs.Types.{GroupKind, InfoFaultKind, Missing, OutOfRange}
use Rattle.info65.specs.declared.syntax.attribute.GroupKind.TheVariants as group

-- the address belongs to the segment: both ends do
abbrev pub contains : SegmentView → ℕ → Bool
contains s a = nat_le s.first a && nat_le a s.last

-- the name of the segment that contains the address; in an information file no address belongs to two
unfoldable pub segment_covering : List SegmentView → ℕ → Option (List ℕ)
segment_covering segments a = option_map (λ s. s.name) (find (λ s. contains s a) segments)

abbrev pub blank_segment : SegmentView
blank_segment = record { first = 0; last = 0; name = [] }

abbrev pub segment_at : List SegmentView → ℕ → SegmentView
segment_at segments i = get_or segments i blank_segment

-- no address belongs to both
abbrev pub AreApart : SegmentView → SegmentView → Type 0
AreApart s t = (a : ℕ) → contains s a ≡ true → contains t a ≡ true → ⊥

-- a segment as a file can give it
pub record IsSegment (s : SegmentView) : Type 0 where
  pub ordered : s.first ≤ s.last
  pub room : s.last ≤ 0xFFFF
  pub form : has_name_form s.name ≡ true

-- the segments of a file: no address belongs to two
pub record AreSegments (segments : List SegmentView) : Type 0 where
  pub each : All IsSegment segments
  pub apart : AllPairs AreApart segments

-- the segments share an address: neither lies whole below the other
unfoldable pub meets : SegmentView → SegmentView → Bool
meets s t = nat_le s.first t.last && nat_le t.first s.last

-- ---- what a group SEGMENT says

-- START, END and NAME are needed, and it does not end before it begins
abbrev pub segment_from : Option ℕ → Option ℕ → Option (List ℕ) → Result SegmentView InfoFaultKind
segment_from (Some first) (Some last) (Some name) =
    if nat_le first last then Ok (record { first = first; last = last; name = name }) else Err OutOfRange
segment_from _ _ _ = Err Missing

-- the segment that a group SEGMENT says by what is given in it, or the fault that it has by itself
unfoldable pub segment_in : List AssignmentView → Result SegmentView InfoFaultKind
segment_in given =
    segment_from (as_address (value_in attribute.Start given)) (as_address (value_in attribute.End given)) (as_name (value_in attribute.Name given))

abbrev pub segment_part : GroupView → List SegmentView
segment_part g = if_segment g.kind (segment_in g.given)
  where
    if_segment : GroupKind → Result SegmentView InfoFaultKind → List SegmentView
    if_segment group.Segment (Ok s) = s ∷ []
    if_segment _ _ = []

-- the segments of the groups SEGMENT, in the order of the groups
unfoldable pub segments_of : List GroupView → List SegmentView
segments_of groups = flat_map segment_part groups
