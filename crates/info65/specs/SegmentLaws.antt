-- Laws of segments.
use Rattle.std.specs.Prelude.{◌≡◌, ◌<◌, ◌∷◌, [], ℕ, All, List, Some, None, length, true, false}
use Rattle.info65.specs.Grammar.{IsInformation}
use Rattle.info65.specs.Groups.{AssignmentView, GroupView, value_in}
use Rattle.info65.specs.Segments.{AreSegments, contains, segment_at, segment_covering}
use Rattle.info65.specs.Values.{a_name, an_address}
use Rattle.info65.specs.Views.{InfoView, OptionsView, SegmentView}
use Rattle.info65.specs.declared.syntax.attribute.Attribute.TheVariants as attribute
use Rattle.info65.specs.Types.{GroupKind}
use Rattle.info65.specs.declared.syntax.attribute.GroupKind.TheVariants as group

-- What is given in a group SEGMENT says this segment: START is its first address, END its last, and NAME
-- its name.
pub record SaysSegment (given : List AssignmentView) (s : SegmentView) : Type 0 where
  pub first : value_in attribute.Start given ≡ Some (an_address s.first)
  pub last : value_in attribute.End given ≡ Some (an_address s.last)
  pub name : value_in attribute.Name given ≡ Some (a_name s.name)

-- a group SEGMENT says the first of the segments, and any other group says none
abbrev pub Says : GroupKind → List AssignmentView → List SegmentView → (List SegmentView → Type 0) → Type 0
Says group.Segment given [] others = ⊥
Says group.Segment given (s ∷ ss) others = SaysSegment given s × others ss
Says _ given ss others = others ss

-- the segments are those that the groups SEGMENT say, one a group, in the order of the groups
abbrev pub AreSaid : List GroupView → List SegmentView → Type 0
AreSaid [] ss = ss ≡ []
AreSaid (g ∷ gs) ss = Says g.kind g.given ss (AreSaid gs)

-- The segments of an information file are those that its groups SEGMENT say; none ends before it begins,
-- and no address belongs to two of them.
abbrev pub SegmentsApart : Type 0
SegmentsApart =
    (o : OptionsView) (bytes : List ℕ) (info : InfoView) (i : IsInformation o bytes info) → AreSaid i.groups info.segments × AreSegments info.segments

-- a segment that contains the address, and no other does
pub record IsOnly (segments : List SegmentView) (a : ℕ) (name : List ℕ) : Type 0 where
  pub place : ℕ
  pub low : place < length segments
  pub contains_it : contains (segment_at segments place) a ≡ true
  pub named : name ≡ (segment_at segments place).name
  pub only : (i : ℕ) → i < length segments → contains (segment_at segments i) a ≡ true → i ≡ place

-- The name of an address is that of the one segment that contains it; where there is none, no segment does.
pub record IsCovered (segments : List SegmentView) (a : ℕ) : Type 0 where
  pub some : (name : List ℕ) → segment_covering segments a ≡ Some name → IsOnly segments a name
  pub none : segment_covering segments a ≡ None → All (λ s. contains s a ≡ false) segments

abbrev pub CoversOne : Type 0
CoversOne = (segments : List SegmentView) → AreSegments segments → (a : ℕ) → IsCovered segments a
