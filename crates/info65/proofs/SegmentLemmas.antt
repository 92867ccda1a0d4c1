-- The segments of an accepted file: what their groups say, and that no two share an address.
use Rattle.std.proofs.Common.{◌≡◌, ◌∙◌, ◌≤◌, ◌<◌, ◌+◌, ◌-◌, ◌||◌, ℕ, Bool, List, [], ◌∷◌, ◌++◌, true, false, ap, arith, drop, get_or, length, map, refl, subst, sym}
use Rattle.std.specs.Prelude.{All, Any, IfSome, Option, Some, None, Result, Ok, Err, option_map, option_to_list}
use Rattle.std.specs.List.{flat_map, list_any}
use Rattle.std.proofs.lemmas.Bool.Decides.{nat_tests}
use Rattle.std.proofs.lemmas.List.{append-nil, at_drop_all, at_drop_more}
use Rattle.std.proofs.lemmas.List.Elements.{All-append, All-cons, All-map, All-nil, All-push}
use Rattle.std.proofs.lemmas.List.Folds.{Any-from_list_any, list_any-append, list_any-from_Any, list_any_at}
use Rattle.std.proofs.lemmas.List.Quantifiers.{all_pairs_push}
use Rattle.std.proofs.lemmas.Grind.{flat_map-append}
use Rattle.info65.specs.Words.{AreFormed, AreGroups, AreMarked, AreSegments, AssignmentView, Group, GroupKind, GroupView, HasForm, InfoFaultKind, IsSegment, RangeSpec, SaysSegment, SegmentView, SegmentsApart, ValueView, a_name, an_address, any_in, as_name, closing_fault, contains, form_of, group_seen, has_address, meets, overlaps, parts_seen, segment_fault, segment_from, segment_in, segment_part, segments_of, tokens_of, value_in}
use Rattle.info65.specs.Types.{SegmentParts, SegmentsOverlap}
use Rattle.info65.specs.SegmentLaws.{AreSaid}
use Rattle.info65.specs.Segments.{AreApart}
use Rattle.info65.specs.Values.{as_address}
use Rattle.info65.specs.declared.syntax.attribute.Attribute.TheVariants as attribute
use Rattle.info65.specs.declared.syntax.attribute.ValueForm.TheVariants as form
use Rattle.info65.specs.declared.syntax.attribute.GroupKind.TheVariants as kind
use Rattle.info65.specs.declared.information.range.RangeType.TheVariants as role
use Rattle.info65.proofs.Cases.{by_test, or_last}
use Rattle.info65.proofs.FormLemmas.{AreRead, accepted_read, found_formed, read_keeps}
use Rattle.info65.proofs.IndexLemmas.{overlaps_marked}
use Rattle.info65.proofs.NamesLemmas.{name_formed}

-- ---- group by group

-- the group at a place of the list is the next
pub segments_next : {Z : Type 0} (gs : List (Group Z)) (i : ℕ) (x : Group Z) → i < length gs → x ≡ get_or gs i x
    → segments_of (map group_seen (drop i gs)) ≡ segment_part (group_seen x) ++ segments_of (map group_seen (drop (i + 1) gs))
unfolding segments_of
segments_next gs i x here is =
    at_drop_more (λ l. segments_of (map group_seen l)) gs i x here
    ∙ ap (λ y. segments_of (group_seen y ∷ map group_seen (drop (i + 1) gs))) (sym is)

pub segments_none : {Z : Type 0} (gs : List (Group Z)) (i : ℕ) → length gs ≤ i → segments_of (map group_seen (drop i gs)) ≡ []
unfolding segments_of
segments_none gs i past = at_drop_all (λ l. segments_of (map group_seen l)) gs i past

segments_more : (before : List GroupView) (g : GroupView) → segments_of (before ++ g ∷ []) ≡ segments_of before ++ segment_part g
unfolding segments_of
segments_more before g = flat_map-append segment_part before (g ∷ []) ∙ ap (λ l. flat_map segment_part before ++ l) (append-nil (segment_part g))

-- ---- the addresses of a segment

-- the addresses alone, as a range
abbrev extent : SegmentView → RangeSpec
extent s = record { first = s.first; last = s.last; role = role.Code }

any_extents : (p : RangeSpec → Bool) (segments : List SegmentView) → list_any (λ s. p (extent s)) segments ≡ list_any p (map extent segments)
any_extents p [] = refl
any_extents p (s ∷ ss) = by_test (p (extent s)) (λ hit. rw hit refl) (λ miss. rw miss (any_extents p ss))

-- a segment shares an address with one of the segments exactly where one of its addresses is marked
pub meets_marked : (segments : List SegmentView) (table : List Bool) (s : SegmentView) → AreMarked segments table → s.first ≤ s.last → s.last < 0x1_0000 → any_in table s.first (s.last + 1 - s.first) ≡ list_any (meets s) segments
unfolding meets overlaps
meets_marked segments table s m ordered low =
    overlaps_marked (map extent segments) table (extent s) (All-map (λ (r : RangeSpec). r.first ≤ r.last) extent segments m.ordered) (λ a la. m.marked a la ∙ any_extents (λ r. has_address r a) segments) ordered low
    ∙ sym (any_extents (overlaps (extent s)) segments)

pub no_marks : AreMarked [] []
no_marks = record { ordered = λ k d l. absurd (omega (arith, l)); marked = λ a low. refl }

segment_marked : (segments : List SegmentView) (s : SegmentView) (old new : List Bool) → AreMarked segments old → s.first ≤ s.last
    → ((a : ℕ) → a < 0x1_0000 → get_or new a false ≡ (get_or old a false || contains s a)) → AreMarked (segments ++ s ∷ []) new
segment_marked segments s old new m ordered marked = record {
  ordered = All-push (λ (x : SegmentView). x.first ≤ x.last) segments s m.ordered ordered;
  marked = λ a low. marked a low ∙ ap (λ b. b || contains s a) (m.marked a low) ∙ ap (λ b. list_any (λ (x : SegmentView). contains x a) segments || b) (sym (or_last (contains s a))) ∙ sym (list_any-append (λ (x : SegmentView). contains x a) segments (s ∷ []));
}

-- ---- what a group SEGMENT says

record IsSaid (given : List AssignmentView) (s : SegmentView) : Type 0 where
  first : as_address (value_in attribute.Start given) ≡ Some s.first
  last : as_address (value_in attribute.End given) ≡ Some s.last
  name : as_name (value_in attribute.Name given) ≡ Some s.name
  ordered : s.first ≤ s.last

from : (f l : ℕ) (n : List ℕ) (s : SegmentView) → segment_from (Some f) (Some l) (Some n) ≡ Ok s → (s ≡ record { first = f; last = l; name = n }) × (f ≤ l)
from f l n s h = (grind arith, grind (arith, nat_tests))

segment_is : (given : List AssignmentView) (s : SegmentView) → segment_in given ≡ Ok s → IsSaid given s
unfolding segment_in
segment_is given s h = grind (arith, from)

address_low : (v : Option ValueView) → IfSome v (HasForm form.Address) → (n : ℕ) → as_address v ≡ Some n → n ≤ 0xFFFF
address_low (Some (an_address m)) h n e = let same : m ≡ n = cc in subst (λ (k : ℕ). k ≤ 0xFFFF) same h
address_low _ h n e = absurd cc

-- a value that is a name
pub text_is : (v : Option ValueView) (t : List ℕ) → as_name v ≡ Some t → v ≡ Some (a_name t)
text_is (Some (a_name u)) t h = let e : u ≡ t = cc in ap (λ x. Some (a_name x)) e
text_is _ t h = absurd cc

segment_good : (given : List AssignmentView) (s : SegmentView) → AreFormed given → segment_in given ≡ Ok s → IsSegment s
unfolding form_of
segment_good given s f h = grind (arith, segment_is, address_low, found_formed, name_formed)

says : (given : List AssignmentView) (s : SegmentView) → segment_in given ≡ Ok s → SaysSegment given s
says given s h = grind (arith, segment_is)

pub segment_ordered : (given : List AssignmentView) (s : SegmentView) → segment_in given ≡ Ok s → s.first ≤ s.last
segment_ordered given s h = (segment_is given s h).ordered

pub segment_meets : (segments : List SegmentView) (s : SegmentView) (x : Result SegmentView InfoFaultKind) → x ≡ Ok s → list_any (meets s) segments ≡ true → segment_fault segments x ≡ Some SegmentsOverlap
segment_meets segments s x is hit = rw is (rw hit refl)

pub segment_apart : (segments : List SegmentView) (s : SegmentView) (x : Result SegmentView InfoFaultKind) → x ≡ Ok s → list_any (meets s) segments ≡ false → segment_fault segments x ≡ None
segment_apart segments s x is miss = rw is (rw miss refl)

-- ---- marking

ordered_part : (k : GroupKind) (given : List AssignmentView) (x : Result SegmentView InfoFaultKind) → segment_in given ≡ x → All (λ (s : SegmentView). s.first ≤ s.last) (segment_part (record { kind = k; given = given }))
ordered_part kind.Segment given (Ok s) e = rw e (All-cons (λ (x : SegmentView). x.first ≤ x.last) s [] (segment_is given s e).ordered (All-nil (λ (x : SegmentView). x.first ≤ x.last)))
ordered_part kind.Segment given (Err f) e = rw e (All-nil (λ (x : SegmentView). x.first ≤ x.last))
ordered_part _ given x e = All-nil (λ (x : SegmentView). x.first ≤ x.last)

pub part_ordered : (g : GroupView) (s : SegmentView) → s ∷ [] ≡ segment_part g → s.first ≤ s.last
part_ordered g s is = (rw (← is) at (ordered_part g.kind g.given (segment_in g.given) refl)) 0 s (omega arith)

pub some_ordered : (g : GroupView) (o : Option SegmentParts) → option_to_list (option_map parts_seen o) ≡ segment_part g → IfSome o (λ s. s.first ≤ s.last)
some_ordered g None is = tt
some_ordered g (Some s) is = part_ordered g (parts_seen s) is

-- a group that says a segment marks it
pub marked_more : (before : List GroupView) (g : GroupView) (s : SegmentView) (old new : List Bool) → s ∷ [] ≡ segment_part g
    → ((a : ℕ) → a < 0x1_0000 → get_or new a false ≡ (get_or old a false || contains s a)) → AreMarked (segments_of before) old → AreMarked (segments_of (before ++ g ∷ [])) new
marked_more before g s old new is marked m = rw (segments_more before g, ← is) (segment_marked (segments_of before) s old new m (part_ordered g s is) marked)

-- and one that says none marks none
pub marked_same : (before : List GroupView) (g : GroupView) (table : List Bool) → [] ≡ segment_part g → AreMarked (segments_of before) table → AreMarked (segments_of (before ++ g ∷ [])) table
marked_same before g table is m = rw (segments_more before g, ← is, append-nil (segments_of before)) m

-- ---- no two share an address

-- a group SEGMENT that closes
record ClosesSegment (segments : List SegmentView) (given : List AssignmentView) : Type 0 where
  segment : SegmentView
  is : segment_in given ≡ Ok segment
  free : list_any (meets segment) segments ≡ false

closed_segment : (segments : List SegmentView) (given : List AssignmentView) (x : Result SegmentView InfoFaultKind) → segment_in given ≡ x → segment_fault segments x ≡ None → ClosesSegment segments given
closed_segment segments given (Err f) e h = absurd cc
closed_segment segments given (Ok s) e h = record { segment = s; is = e; free = grind arith }

closes_segment : (before : List GroupView) (given : List AssignmentView) → closing_fault before kind.Segment given ≡ None → ClosesSegment (segments_of before) given
unfolding closing_fault
closes_segment before given h = closed_segment (segments_of before) given (segment_in given) refl h

apart_from : (s : SegmentView) (ss : List SegmentView) → list_any (meets s) ss ≡ false → (k : ℕ) (d : SegmentView) → k < length ss → AreApart (get_or ss k d) s
unfolding meets overlaps
apart_from s ss free k d l a there here = grind (arith, list_any_at)

good_more : (before : List GroupView) (k : GroupKind) (given : List AssignmentView) → AreFormed given → closing_fault before k given ≡ None → AreSegments (segments_of before) → AreSegments (segments_of before ++ segment_part (record { kind = k; given = given }))
good_more before kind.Segment given f h old =
    let c = closes_segment before given h in
    rw c.is (record {
      each = All-push IsSegment (segments_of before) c.segment old.each (segment_good given c.segment f c.is);
      apart = all_pairs_push AreApart (segments_of before) c.segment old.apart (apart_from c.segment (segments_of before) c.free);
    })
good_more before _ given f h old = rw (append-nil (segments_of before)) old

none_said : AreSegments (segments_of [])
unfolding segments_of
none_said = record { each = λ k d l. absurd (omega (arith, l)); apart = λ i j d lt l. absurd (omega (arith, l)) }

pub segments_sound : (groups : List GroupView) → AreRead groups → AreSegments (segments_of groups)
segments_sound groups r = read_keeps (λ gs. AreSegments (segments_of gs)) (λ before k given g f old. rw (segments_more before (record { kind = k; given = given })) (good_more before k given f g.closes old)) none_said groups r

-- ---- the laws

said_more : (before : List GroupView) (k : GroupKind) (given : List AssignmentView) (gs : List GroupView) → closing_fault before k given ≡ None → AreSaid gs (segments_of gs) → AreSaid (record { kind = k; given = given } ∷ gs) (segment_part (record { kind = k; given = given }) ++ segments_of gs)
said_more before kind.Segment given gs h said = let c = closes_segment before given h in rw c.is (says given c.segment c.is, said)
said_more before _ given gs h said = said

groups_said : (before gs : List GroupView) → AreGroups before gs → AreSaid gs (segments_of gs)
unfolding segments_of
groups_said before [] h = refl
groups_said before (g ∷ gs) h = said_more before g.kind g.given gs h.0.closes (groups_said (before ++ g ∷ []) gs h.1)

pub segments_apart : SegmentsApart
segments_apart o bytes info i =
    rw i.says (groups_said [] i.groups i.accepts.keeps, segments_sound i.groups (accepted_read o (tokens_of 1 bytes).tokens i.groups i.accepts))
