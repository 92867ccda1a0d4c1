-- The ranges of an accepted file: what their groups say, and that no two share an address.
use Rattle.std.proofs.Common.{◌≡◌, ◌∙◌, ◌≤◌, ◌<◌, ◌+◌, ◌-◌, max, ℕ, List, [], ◌∷◌, ◌++◌, true, false, ap, arith, get_or, inl, inr, length, refl}
use Rattle.std.specs.Prelude.{All, AllPairs, Any, IfSome, Option, Some, None, Result, Ok, Err, option_to_list, ◌⊎◌}
use Rattle.std.specs.List.{flat_map, list_any}
use Rattle.std.proofs.lemmas.Bool.Decides.{nat_tests}
use Rattle.std.proofs.lemmas.List.{append-nil}
use Rattle.std.proofs.lemmas.List.Elements.{All-append, All-cons, All-nil}
use Rattle.std.proofs.lemmas.List.Folds.{Any-from_list_any, list_any_at, list_any-from_Any}
use Rattle.std.proofs.lemmas.List.Quantifiers.{all_pairs_push}
use Rattle.std.proofs.lemmas.Grind.{flat_map-append}
use Rattle.info65.specs.Words.{AreAllFormed, AreFormed, AreGroups, AreRanges, AssignmentView, GroupKind, GroupView, InfoFaultKind, NameView, RangeSpec, RangeType, RangesApart, SaysRange, ValueView, a_number, a_type, an_address, as_number, as_type, closing_fault, form_of, last_from, name_fault, names_said, optional_name_fault, has_address, overlaps, range_between, range_fault, range_from, range_in, range_name, range_of_parts, range_part, ranges_of, tokens_of, value_in}
use Rattle.info65.specs.Laws.{AreSaid}
use Rattle.info65.specs.Ranges.{AreApart}
use Rattle.info65.specs.Values.{as_address}
use Rattle.info65.specs.declared.syntax.attribute.Attribute.TheVariants as attribute
use Rattle.info65.specs.declared.syntax.attribute.GroupKind.TheVariants as kind
use Rattle.info65.proofs.FormLemmas.{AreRead, accepted_read, found_formed, read_keeps, size_in}

-- ---- group by group

pub ranges_more : (before : List GroupView) (g : GroupView) → ranges_of (before ++ g ∷ []) ≡ ranges_of before ++ range_part g
unfolding ranges_of
ranges_more before g = flat_map-append range_part before (g ∷ []) ∙ ap (λ l. flat_map range_part before ++ l) (append-nil (range_part g))

-- ---- what a group says

record IsFrom (s e z : Option ℕ) (t : Option RangeType) (r : RangeSpec) : Type 0 where
  first : s ≡ Some r.first
  last : (e ≡ Some r.last) ⊎ (z ≡ Some (r.last + 1 - r.first))
  role : t ≡ Some r.role
  ordered : r.first ≤ r.last

between : (f l : ℕ) (t : RangeType) (r : RangeSpec) → range_between f t (Some l) ≡ Ok r → (r.first ≡ f) × (r.last ≡ l) × (r.role ≡ t) × (f ≤ l) × (l ≤ 0xFFFF)
between f l t r h = (grind (arith, nat_tests), grind (arith, nat_tests), grind (arith, nat_tests), grind (arith, nat_tests), grind (arith, nat_tests))

from : (s e z : Option ℕ) (t : Option RangeType) (r : RangeSpec) → IfSome z (λ n. 1 ≤ n) → range_from s e z t ≡ Ok r → IsFrom s e z t r
from (Some f) (Some l) z (Some t) r h i = grind arith
from (Some f) None (Some n) (Some t) r h i = grind arith
from (Some f) None None (Some t) r h i = absurd cc
from (Some f) e z None r h i = absurd cc
from None e z t r h i = absurd cc

pub address_is : (v : Option ValueView) (n : ℕ) → as_address v ≡ Some n → v ≡ Some (an_address n)
address_is (Some (an_address m)) n h = let e : m ≡ n = cc in ap (λ x. Some (an_address x)) e
address_is _ n h = absurd cc

number_is : (v : Option ValueView) (n : ℕ) → as_number v ≡ Some n → v ≡ Some (a_number n)
number_is (Some (a_number m)) n h = let e : m ≡ n = cc in ap (λ x. Some (a_number x)) e
number_is _ n h = absurd cc

type_is : (v : Option ValueView) (t : RangeType) → as_type v ≡ Some t → v ≡ Some (a_type t)
type_is (Some (a_type u)) t h = let e : u ≡ t = cc in ap (λ x. Some (a_type x)) e
type_is _ t h = absurd cc

some_low : (z : Option ℕ) → IfSome z (λ n. (1 ≤ n) × (n ≤ 0x1_0000)) → IfSome z (λ n. 1 ≤ n)
some_low (Some n) h = h.0
some_low None h = tt

last_is : (e z : Option ValueView) (l n : ℕ) → (as_address e ≡ Some l) ⊎ (as_number z ≡ Some n) → (e ≡ Some (an_address l)) ⊎ (z ≡ Some (a_number n))
last_is e z l n (inl h) = inl (address_is e l h)
last_is e z l n (inr h) = inr (number_is z n h)

-- the range of an accepted group is that of its parts
range_parts : (given : List AssignmentView) (r : RangeSpec) → range_in given ≡ Ok r → range_of_parts given ≡ Ok r
unfolding range_in
range_parts given r h = grind arith

says : (given : List AssignmentView) (r : RangeSpec) → AreFormed given → range_in given ≡ Ok r → SaysRange given r
unfolding range_of_parts form_of
says given r f h =
    let low = some_low (as_number (value_in attribute.Size given)) (size_in (value_in attribute.Size given) (found_formed attribute.Size given f)) in
    let i = from (as_address (value_in attribute.Start given)) (as_address (value_in attribute.End given)) (as_number (value_in attribute.Size given)) (as_type (value_in attribute.Role given)) r low (range_parts given r h) in
    record {
      first = address_is (value_in attribute.Start given) r.first i.first;
      last = last_is (value_in attribute.End given) (value_in attribute.Size given) r.last (r.last + 1 - r.first) i.last;
      role = type_is (value_in attribute.Role given) r.role i.role;
    }

-- ---- each range is ordered

pub record IsBounded (r : RangeSpec) : Type 0 where
  pub ordered : r.first ≤ r.last
  pub low : r.last ≤ 0xFFFF

bounded_between : (f : ℕ) (t : RangeType) (l : Option ℕ) (r : RangeSpec) → range_between f t l ≡ Ok r → IsBounded r
bounded_between f t (Some l) r h = let b = between f l t r h in record { ordered = rw (b.0, b.1) b.3; low = rw b.1 b.4 }
bounded_between f t None r h = absurd cc

bounded_from : (s e z : Option ℕ) (t : Option RangeType) (r : RangeSpec) → range_from s e z t ≡ Ok r → IsBounded r
bounded_from (Some f) e z (Some t) r h = bounded_between f t (last_from f e z) r h
bounded_from _ e z _ r h = absurd cc

-- a range does not end before it begins, nor past $FFFF
pub bounded_in : (given : List AssignmentView) (r : RangeSpec) → range_in given ≡ Ok r → IsBounded r
unfolding range_of_parts
bounded_in given r h = bounded_from (as_address (value_in attribute.Start given)) (as_address (value_in attribute.End given)) (as_number (value_in attribute.Size given)) (as_type (value_in attribute.Role given)) r (range_parts given r h)

abbrev Ordered : List RangeSpec → Type 0
Ordered rs = All (λ r. r.first ≤ r.last) rs

ordered_part : (k : GroupKind) (given : List AssignmentView) (x : Result RangeSpec InfoFaultKind) → range_in given ≡ x → Ordered (range_part (record { kind = k; given = given }))
ordered_part kind.Range given (Ok r) e = rw e (All-cons (λ (x : RangeSpec). x.first ≤ x.last) r [] (bounded_in given r e).ordered (All-nil (λ (x : RangeSpec). x.first ≤ x.last)))
ordered_part kind.Range given (Err f) e = rw e (All-nil (λ (x : RangeSpec). x.first ≤ x.last))
ordered_part _ given x e = All-nil (λ (x : RangeSpec). x.first ≤ x.last)

pub part_ordered : (g : GroupView) (r : RangeSpec) → r ∷ [] ≡ range_part g → r.first ≤ r.last
part_ordered g r is = (rw (← is) at (ordered_part g.kind g.given (range_in g.given) refl)) 0 r (omega arith)

pub some_ordered : (g : GroupView) (o : Option RangeSpec) → option_to_list o ≡ range_part g → IfSome o (λ r. r.first ≤ r.last)
some_ordered g None is = tt
some_ordered g (Some r) is = part_ordered g r is

pub ranges_ordered : (groups : List GroupView) → Ordered (ranges_of groups)
unfolding ranges_of
ranges_ordered [] = All-nil (λ (x : RangeSpec). x.first ≤ x.last)
ranges_ordered (g ∷ gs) = All-append (λ r. r.first ≤ r.last) (range_part g) (ranges_of gs) (ordered_part g.kind g.given (range_in g.given) refl) (ranges_ordered gs)

-- ---- two ranges overlap where they share an address

-- an address belongs to both ranges
abbrev pub Share : RangeSpec → RangeSpec → Type 0
Share r q = (a : ℕ) × (has_address r a ≡ true) × (has_address q a ≡ true)

pub overlap_shared : (r q : RangeSpec) → r.first ≤ r.last → q.first ≤ q.last → overlaps r q ≡ true → Share r q
unfolding overlaps
overlap_shared r q ro qo h = (max r.first q.first, grind (arith, nat_tests), grind (arith, nat_tests))

pub shared_overlap : (r q : RangeSpec) → Share r q → overlaps r q ≡ true
unfolding overlaps
shared_overlap r q h = grind (arith, nat_tests, h.1, h.2)

-- an overlap with one of some ranges
pub any_shared : (r : RangeSpec) (rs : List RangeSpec) → r.first ≤ r.last → Ordered rs → Any (λ q. overlaps r q ≡ true) rs → Any (Share r) rs
any_shared r rs ro so h = grind (arith, overlap_shared)

-- ---- no two share an address

-- a group RANGE that closes
pub record ClosesRange (ranges : List RangeSpec) (names : List NameView) (given : List AssignmentView) : Type 0 where
  pub range : RangeSpec
  pub is : range_in given ≡ Ok range
  pub free : list_any (overlaps range) ranges ≡ false
  pub named : optional_name_fault names (range_name given range) ≡ None

closed_range : (ranges : List RangeSpec) (names : List NameView) (given : List AssignmentView) (x : Result RangeSpec InfoFaultKind) → range_in given ≡ x → range_fault ranges names given x ≡ None → ClosesRange ranges names given
closed_range ranges names given (Err f) e h = absurd cc
closed_range ranges names given (Ok r) e h = record { range = r; is = e; free = grind arith; named = grind arith }

pub closes_range : (before : List GroupView) (given : List AssignmentView) → closing_fault before kind.Range given ≡ None → ClosesRange (ranges_of before) (names_said before) given
unfolding closing_fault
closes_range before given h = closed_range (ranges_of before) (names_said before) given (range_in given) refl h

apart_from : (r : RangeSpec) (rs : List RangeSpec) → list_any (overlaps r) rs ≡ false → (k : ℕ) (d : RangeSpec) → k < length rs → AreApart (get_or rs k d) r
apart_from r rs free k d l a there here = grind (arith, list_any_at, shared_overlap)

pairs_more : (before : List GroupView) (k : GroupKind) (given : List AssignmentView) → closing_fault before k given ≡ None → AllPairs AreApart (ranges_of before) → AllPairs AreApart (ranges_of before ++ range_part (record { kind = k; given = given }))
pairs_more before kind.Range given h old =
    let c = closes_range before given h in
    rw c.is (all_pairs_push AreApart (ranges_of before) c.range old (apart_from c.range (ranges_of before) c.free))
pairs_more before _ given h old = rw (append-nil (ranges_of before)) old

none_apart : AllPairs AreApart (ranges_of [])
unfolding ranges_of
none_apart i j d lt l = absurd (omega (arith, l))

-- groups that keep every condition have such ranges
pub ranges_sound : (groups : List GroupView) → AreRead groups → AreRanges (ranges_of groups)
ranges_sound groups r = record {
  disjoint = record { each = read_keeps (λ gs. AllPairs AreApart (ranges_of gs)) (λ before k given g f old. rw (ranges_more before (record { kind = k; given = given })) (pairs_more before k given g.closes old)) none_apart groups r };
  ordered = ranges_ordered groups;
}

said_more : (before : List GroupView) (k : GroupKind) (given : List AssignmentView) (gs : List GroupView) → closing_fault before k given ≡ None → AreFormed given → AreSaid gs (ranges_of gs) → AreSaid (record { kind = k; given = given } ∷ gs) (range_part (record { kind = k; given = given }) ++ ranges_of gs)
said_more before kind.Range given gs h f said = let c = closes_range before given h in rw c.is (says given c.range f c.is, said)
said_more before _ given gs h f said = said

groups_said : (before gs : List GroupView) → AreGroups before gs → AreAllFormed gs → AreSaid gs (ranges_of gs)
unfolding ranges_of
groups_said before [] h f = refl
groups_said before (g ∷ gs) h f = said_more before g.kind g.given gs h.0.closes f.0 (groups_said (before ++ g ∷ []) gs h.1 f.1)

pub ranges_apart : RangesApart
ranges_apart o bytes info i =
    let r = accepted_read o (tokens_of 1 bytes).tokens i.groups i.accepts in
    rw i.says (groups_said [] i.groups r.keeps r.formed, ranges_sound i.groups r)
