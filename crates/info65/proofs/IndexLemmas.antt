-- The index of closed groups.
use Rattle.std.proofs.Common.{◌≡◌, ◌≢◌, ◌∙◌, ◌≤◌, ◌<◌, ◌+◌, ◌-◌, ◌==◌, ◌&&◌, ◌||◌, ℕ, zero, suc, Bool, List, [], ◌∷◌, ◌++◌, true, false, ap, ap₂, arith, get_or, inl, inr, length, length-append, map, min, option_map, refl, sym, if◌then◌else◌}
use Rattle.std.specs.Prelude.{All, AllPairs, Option, Some, None, Result, Ok, Err, is_some, option_to_list, nat_le, nat_lt, not}
use Rattle.std.specs.List.{find, flat_map, list_any}
use Rattle.std.specs.Str.{bytes_eq}
use Rattle.std.proofs.lemmas.Bool.{cond-false, cond-true, eqb-true, false≢true, ne_eqb}
use Rattle.std.proofs.lemmas.Bool.Decides.{nat_tests}
use Rattle.std.proofs.lemmas.List.Folds.{Any-from_list_any, find-append, list_any_none, list_any-append, list_any_at, list_any-from_Any}
use Rattle.std.proofs.lemmas.Grind.{flat_map-append}
use Rattle.std.proofs.Math.ListN.{get_or-eq_default}
use Rattle.std.proofs.lemmas.List.{append-nil}
use Rattle.std.proofs.lemmas.List.Elements.{All-push}
use Rattle.std.proofs.lemmas.List.Quantifiers.{all_pairs_push}
use Rattle.std.proofs.lemmas.Option.{slice_get-get_or, slice_get-map}
use Rattle.std.proofs.lemmas.Slice.Eq.{bytes_eq-Decides}
use Rattle.info65.specs.Words.{AddsText, AreRanged, AssignmentView, Given, GroupKind, GroupView, InfoFaultKind, IsFoundAt, IsIndex, NameView, NumbersView, RangeSpec, RangesOverlap, StandsIn, TextsView, any_in, blank_name, closing_fault, given_seen, has_address, is_at, is_elsewhere, is_reserved, label_fault, label_in, name_fault, name_part, named_at, names_from, names_said, numbered, optional_name_fault, overlaps, range_fault, range_name, range_part, ranges_of, stands_by, text_at}
use Rattle.info65.specs.declared.syntax.attribute.GroupKind.TheVariants as kind
use Rattle.info65.specs.Code.Numbers.{number_at}
use Rattle.info65.proofs.Cases.{by_test, is_some_find, or_last, some_map}
use Rattle.info65.proofs.RangeLemmas.{any_shared, closes_range, part_ordered, ranges_more, shared_overlap}

pub same_text : (t u : List ℕ) → bytes_eq t u ≡ true → t ≡ u
same_text t u h = (bytes_eq-Decides t u).0 h

pub other_way : (t u : List ℕ) → bytes_eq t u ≡ false → bytes_eq u t ≡ false
other_way t u apart = by_test (bytes_eq u t) (λ hit. absurd (false≢true (sym apart ∙ (bytes_eq-Decides t u).1 (sym (same_text u t hit))))) (λ miss. miss)

-- ---- marked addresses

pub any_next : (table : List Bool) (a end : ℕ) → a < end → any_in table a (end - a) ≡ (get_or table a false || any_in table (a + 1) (end - (a + 1)))
unfolding any_in
any_next table a end lt = let e : end - a ≡ suc (end - (a + 1)) = omega arith in rw e refl

any_in_yes : (table : List Bool) (first n a : ℕ) → first ≤ a → a < first + n → get_or table a false ≡ true → any_in table first n ≡ true
unfolding any_in
any_in_yes table first zero a low high is = absurd (omega arith)
any_in_yes table first (suc n) a low high is = grind (arith, any_in_yes table (first + 1) n a)

any_in_no : (table : List Bool) (first n : ℕ) → ((a : ℕ) → first ≤ a → a < first + n → get_or table a false ≡ false) → any_in table first n ≡ false
unfolding any_in
any_in_no table first zero h = refl
any_in_no table first (suc n) h = grind (arith, h first, any_in_no table (first + 1) n (λ a low high. h a (omega arith) (omega arith)))

-- the cells from one on of which none is left in the table, or of which none is asked for
pub any_end : (table : List Bool) (a end : ℕ) → min (length table) end ≤ a → any_in table a (end - a) ≡ false
any_end table a end past = any_in_no table a (end - a) (λ x low high. get_or-eq_default table false (omega (arith, past, low, high)))

within : (r : RangeSpec) (a : ℕ) → has_address r a ≡ true → (r.first ≤ a) × (a ≤ r.last)
within r a h = (grind (arith, nat_tests), grind (arith, nat_tests))

inside : (r : RangeSpec) (a : ℕ) → r.first ≤ a → a ≤ r.last → has_address r a ≡ true
inside r a low high = grind (arith, nat_tests)

-- a range overlaps one of the ranges exactly where one of its addresses is marked
pub overlaps_marked : (ranges : List RangeSpec) (table : List Bool) (r : RangeSpec) → All (λ (q : RangeSpec). q.first ≤ q.last) ranges → ((a : ℕ) → a < 0x1_0000 → get_or table a false ≡ list_any (λ (q : RangeSpec). has_address q a) ranges) → r.first ≤ r.last → r.last < 0x1_0000
    → any_in table r.first (r.last + 1 - r.first) ≡ list_any (overlaps r) ranges
overlaps_marked ranges table r all marks ordered low =
    by_test (list_any (overlaps r) ranges)
    (λ hit.
    let h = any_shared r ranges ordered all (Any-from_list_any (overlaps r) ranges hit) in
    let q : RangeSpec = h.1 in
    let a : ℕ = h.4.0 in
    let here = within r a h.4.1 in
    let on : list_any (λ (x : RangeSpec). has_address x a) ranges ≡ true = list_any-from_Any (λ (x : RangeSpec). has_address x a) ranges (h.0, q, h.2, h.3, h.4.2) in
    any_in_yes table r.first (r.last + 1 - r.first) a here.0 (omega (arith, here.0, here.1)) (marks a (omega (arith, here.1)) ∙ on) ∙ sym hit)
    (λ miss.
    any_in_no table r.first (r.last + 1 - r.first) (λ a from upto.
    by_test (get_or table a false)
    (λ on.
    let h = Any-from_list_any (λ (x : RangeSpec). has_address x a) ranges (sym (marks a (omega (arith, upto, low, ordered))) ∙ on) in
    let q : RangeSpec = h.1 in
    let hit : list_any (overlaps r) ranges ≡ true = list_any-from_Any (overlaps r) ranges (h.0, q, h.2, h.3, shared_overlap r q (a, inside r a from (omega (arith, upto, ordered)), h.4)) in
    absurd (false≢true (sym miss ∙ hit)))
    (λ off. off))
    ∙ sym miss)

-- ---- names

pub taken_is : (names : List NameView) (a : ℕ) → list_any (is_at a) names ≡ is_some (named_at names a)
unfolding named_at
taken_is names a = is_some_find (is_at a) names

abbrev Distinct : List NameView → Type 0
Distinct names = AllPairs (λ n m. n.text ≢ m.text) names

distinct_tail : (x : NameView) (xs : List NameView) → Distinct (x ∷ xs) → Distinct xs
distinct_tail x xs h = λ i j d lt l. h (suc i) (suc j) d (omega arith) (omega arith)

distinct_head : (x : NameView) (xs : List NameView) → Distinct (x ∷ xs) → (k : ℕ) (d : NameView) → k < length xs → x.text ≢ (get_or xs k d).text
distinct_head x xs h k d l = h 0 (suc k) d (omega arith) (omega arith)

abbrev pub elsewhere_by : ℕ → Option ℕ → Bool
elsewhere_by address None = false
elsewhere_by address (Some a) = not (a == address)

-- no two names have one text, so the first that has it tells where it stands
pub elsewhere_is : (names : List NameView) (n : NameView) → Distinct names → list_any (is_elsewhere n) names ≡ elsewhere_by n.address (option_map (λ m. m.address) (text_at names n.text))
elsewhere_is [] n h = refl
elsewhere_is (x ∷ xs) n h =
    by_test (bytes_eq n.text x.text)
    (λ same.
    let none : list_any (is_elsewhere n) xs ≡ false = list_any_none (is_elsewhere n) xs (λ k d l.
    by_test (bytes_eq n.text (get_or xs k d).text)
    (λ again. absurd (distinct_head x xs h k d l (sym (same_text n.text x.text same) ∙ same_text n.text (get_or xs k d).text again)))
    (λ other. rw other refl))
    in
    rw (same, none) (or_last (not (x.address == n.address))))
    (λ other. rw other (elsewhere_is xs n (distinct_tail x xs h)))

-- a name without a fault
pub record IsNew (names : List NameView) (n : NameView) : Type 0 where
  pub free : is_reserved n.address n.text ≡ false
  pub only : list_any (is_elsewhere n) names ≡ false
  pub untaken : list_any (is_at n.address) names ≡ false

pub no_fault : (names : List NameView) (n : NameView) → name_fault names n ≡ None → IsNew names n
unfolding name_fault
no_fault names n h = record { free = grind arith; only = grind arith; untaken = grind arith }

-- and the other way round
pub is_fine : (names : List NameView) (n : NameView) → is_reserved n.address n.text ≡ false → All (λ m. (m.text ≢ n.text) × (m.address ≢ n.address)) names → name_fault names n ≡ None
unfolding name_fault
is_fine names n free apart = grind (arith, list_any_none, get_or, ne_eqb, bytes_eq-Decides)

-- its text is new
pub new_text : (names : List NameView) (n : NameView) → IsNew names n → (k : ℕ) (d : NameView) → k < length names → (get_or names k d).text ≢ n.text
new_text names n new k d l same = grind (arith, nat_tests, new.untaken, new.only, bytes_eq-Decides n.text (get_or names k d).text, list_any_at (is_at n.address) names k d l, list_any_at (is_elsewhere n) names k d l)

-- and so is its address
pub new_address : (names : List NameView) (n : NameView) → IsNew names n → (k : ℕ) (d : NameView) → k < length names → (get_or names k d).address ≢ n.address
new_address names n new k d l same = grind (arith, nat_tests, new.untaken, list_any_at (is_at n.address) names k d l)

no_find : {X : Type 0} (p : X → Bool) (xs : List X) → list_any p xs ≡ false → find p xs ≡ None
no_find p [] h = refl
no_find p (x ∷ xs) h = grind (arith, no_find p xs)

text_free : (names : List NameView) (n : NameView) → IsNew names n → text_at names n.text ≡ None
text_free names n new = no_find (λ (m : NameView). bytes_eq n.text m.text) names (list_any_none (λ (m : NameView). bytes_eq n.text m.text) names (λ k d l.
    by_test (bytes_eq n.text (get_or names k d).text)
    (λ hit. absurd (new_text names n new k d l (sym (same_text n.text (get_or names k d).text hit))))
    (λ miss. miss)))

-- ---- what is added

-- the ranges of one range more
range_added : (ranges : List RangeSpec) (table after : List Bool) (r : RangeSpec) → AreRanged ranges table → r.first ≤ r.last
    → ((a : ℕ) → a < 0x1_0000 → get_or after a false ≡ (get_or table a false || has_address r a)) → AreRanged (ranges ++ r ∷ []) after
range_added ranges table after r i ordered marked = record {
  ordered = All-push (λ (x : RangeSpec). x.first ≤ x.last) ranges r i.ordered ordered;
  ranged = λ a low. marked a low ∙ ap (λ b. b || has_address r a) (i.ranged a low) ∙ ap (λ b. list_any (λ (x : RangeSpec). has_address x a) ranges || b) (sym (or_last (has_address r a))) ∙ sym (list_any-append (λ (x : RangeSpec). has_address x a) ranges (r ∷ []));
}

find_more : {X : Type 0} (p : X → Bool) (xs : List X) (x : X) → find p xs ≡ None → p x ≡ true → find p (xs ++ x ∷ []) ≡ Some x
find_more p xs x none hit = grind (arith, find-append p xs (x ∷ []))

find_same : {X : Type 0} (p : X → Bool) (xs : List X) (x : X) → p x ≡ false → find p (xs ++ x ∷ []) ≡ find p xs
find_same p [] x miss = grind arith
find_same p (y ∷ ys) x miss = grind (arith, find_same p ys x miss)

-- ---- the index

pub numbered_more : (names : List NameView) (n : NameView) (k : ℕ) → k ≤ length names → numbered (names ++ n ∷ []) k ≡ numbered names k
numbered_more names n zero low = refl
numbered_more [] n (suc k) low = absurd (omega (arith, low))
numbered_more (x ∷ xs) n (suc zero) low = refl
numbered_more (x ∷ xs) n (suc (suc k)) low = numbered_more xs n (suc k) (omega (arith, low))

numbered_last : (names : List NameView) (n : NameView) → numbered (names ++ n ∷ []) (length names + 1) ≡ Some n
numbered_last [] n = refl
numbered_last (x ∷ xs) n = grind (arith, numbered_last xs n)

numbered_map : {X Y : Type 0} (f : X → Y) (xs : List X) (k : ℕ) → option_map f (numbered xs k) ≡ numbered (map f xs) k
numbered_map f xs zero = refl
numbered_map f xs (suc k) = sym (slice_get-map f xs k)

-- what the code finds
pub found_is : (items : List Given) (numbers : List NumbersView) (a : ℕ) (o : Option Given) → IsFoundAt (map given_seen items) numbers a → o ≡ numbered items (number_at numbers a) → named_at (map given_seen items) a ≡ option_map given_seen o
found_is items numbers a o i is = sym i.is ∙ sym (numbered_map given_seen items (number_at numbers a)) ∙ ap (option_map given_seen) (sym is)

pub taken_found : (items : List Given) (numbers : List NumbersView) (a : ℕ) → IsFoundAt (map given_seen items) numbers a → is_some (numbered items (number_at numbers a)) ≡ list_any (is_at a) (map given_seen items)
taken_found items numbers a i = sym (some_map given_seen _) ∙ ap is_some (sym (found_is items numbers a _ i refl)) ∙ sym (taken_is (map given_seen items) a)

some_numbered : (names : List NameView) (k : ℕ) → (k ≡ 0 → ⊥) → k ≤ length names → (m : NameView) × (numbered names k ≡ Some m)
some_numbered names zero some low = absurd (some refl)
some_numbered names (suc k) some low = (get_or names k blank_name, slice_get-get_or names k blank_name (omega (arith, low)))

no_text : (o : Option NameView) → option_map (λ (n : NameView). n.address) o ≡ None → o ≡ None
no_text None h = refl
no_text (Some n) h = absurd cc

-- a text is found after one name more
text_added : (names : List NameView) (texts told : TextsView) (n : NameView) (t : List ℕ) → StandsIn names texts t → IsNew names n
    → AddsText texts n.text n.address (length names + 1) told t → StandsIn (names ++ n ∷ []) told t
text_added names texts told n t i new (inl (free, taken, same)) = grind (arith, length-append, option_map, no_text, numbered_last, by_test, cond-true, find_more, find_same)
text_added names texts told n t i new (inr (inl (some, at, same, beside))) =
    let long = length-append names (n ∷ []) in
    let none : text_at names t ≡ None = ap (text_at names) (same_text t n.text at) ∙ text_free names n new in
    let m = some_numbered names (texts.slotted t) some i.low in
    let silent : stands_by t (texts.others t) (Some m.0) ≡ None = ap (stands_by t (texts.others t)) (sym m.1) ∙ i.is ∙ ap (option_map (λ (m : NameView). m.address)) none in
    let other : bytes_eq t m.0.text ≡ false = by_test (bytes_eq t m.0.text) (λ hit. let wrong : ◌≡◌ {A = Option ℕ} (Some m.0.address) None = rw hit at silent in absurd cc) (λ miss. miss) in
    let by : numbered (names ++ n ∷ []) (told.slotted t) ≡ Some m.0 = ap (numbered (names ++ n ∷ [])) same ∙ numbered_more names n (texts.slotted t) i.low ∙ m.1 in
    record {
      low = omega (arith, same, i.low, long);
      alone = λ empty. absurd (some (sym same ∙ empty));
      is = ap (stands_by t (told.others t)) by ∙ cond-false (bytes_eq t m.0.text) (Some m.0.address) (told.others t) other ∙ beside
          ∙ ap (option_map (λ (m : NameView). m.address)) (sym (find_more (λ (m : NameView). bytes_eq t m.text) names n none at));
    }
text_added names texts told n t i new (inr (inr (off, same, also))) = grind (arith, length-append, numbered_more, option_map, find_same)

-- and an address
address_added : (names : List NameView) (numbers more : List NumbersView) (n : NameView) (a : ℕ) → IsFoundAt names numbers a → IsNew names n
    → number_at more a ≡ (if n.address == a then length names + 1 else number_at numbers a) → IsFoundAt (names ++ n ∷ []) more a
unfolding named_at
address_added names numbers more n a i new here = grind (arith, length-append, by_test, cond-true, eqb-true, no_find, numbered_last, find_more, numbered_more, find_same)

pub name_added : (names : List NameView) (numbers more : List NumbersView) (texts told : TextsView) (n : NameView) → IsIndex names numbers texts → name_fault names n ≡ None
    → ((a : ℕ) → number_at more a ≡ (if n.address == a then length names + 1 else number_at numbers a))
    → ((t : List ℕ) → AddsText texts n.text n.address (length names + 1) told t) → IsIndex (names ++ n ∷ []) more told
name_added names numbers more texts told n i fine here there =
    let new = no_fault names n fine in
    record {
      distinct = all_pairs_push (λ (x y : NameView). x.text ≢ y.text) names n i.distinct (new_text names n new);
      addresses = λ a. address_added names numbers more n a (i.addresses a) new (here a);
      texts = λ t. text_added names texts told n t (i.texts t) new (there t);
    }

pub no_index : (numbers : List NumbersView) (texts : TextsView) → numbers ≡ [] → ((t : List ℕ) → texts.slotted t ≡ 0) → ((t : List ℕ) → texts.others t ≡ None) → IsIndex [] numbers texts
unfolding named_at
no_index numbers texts none empty lone = grind arith

-- ---- no ranges

pub no_ranges : AreRanged [] []
no_ranges = record { ordered = λ k d l. absurd (omega (arith, l)); ranged = λ a low. refl }

-- ---- the faults of a group

pub range_overlaps : (ranges : List RangeSpec) (names : List NameView) (given : List AssignmentView) (r : RangeSpec) (x : Result RangeSpec InfoFaultKind) → Ok r ≡ x → list_any (overlaps r) ranges ≡ true → range_fault ranges names given x ≡ Some RangesOverlap
range_overlaps ranges names given r x is hit = rw (← is) (rw hit refl)

pub range_apart : (ranges : List RangeSpec) (names : List NameView) (given : List AssignmentView) (r : RangeSpec) (x : Result RangeSpec InfoFaultKind) → Ok r ≡ x → list_any (overlaps r) ranges ≡ false → range_fault ranges names given x ≡ optional_name_fault names (range_name given r)
range_apart ranges names given r x is miss = rw (← is) (rw miss refl)

-- ---- what a group adds

pub names_more : (before : List GroupView) (g : GroupView) → names_said (before ++ g ∷ []) ≡ names_said before ++ name_part g
unfolding names_said
names_more before g = flat_map-append name_part before (g ∷ []) ∙ ap (λ l. flat_map name_part before ++ l) (append-nil (name_part g))

pub marked_end : (first last a at : ℕ) → at ≡ last + 1 → (nat_le first a && nat_lt a at) ≡ (nat_le first a && nat_le a last)
marked_end first last a at is = grind (arith, nat_tests)

-- ---- names by address

pub names_same : (f g : ℕ → Option NameView) → ((a : ℕ) → f a ≡ g a) → (a n : ℕ) → names_from f a n ≡ names_from g a n
unfolding names_from
names_same f g h a zero = refl
names_same f g h a (suc n) = ap₂ (λ (x : Option NameView) (xs : List NameView). option_to_list x ++ xs) (h a) (names_same f g h (a + 1) n)

-- ---- a group more

pub record ClosesLabel (names : List NameView) (given : List AssignmentView) : Type 0 where
  pub name : NameView
  pub is : label_in given ≡ Ok name
  pub fine : name_fault names name ≡ None

closed_label : (names : List NameView) (given : List AssignmentView) (x : Result NameView InfoFaultKind) → label_in given ≡ x → label_fault names x ≡ None → ClosesLabel names given
closed_label names given (Err f) e h = absurd cc
closed_label names given (Ok n) e h = record { name = n; is = e; fine = h }

pub closes_label : (before : List GroupView) (given : List AssignmentView) → closing_fault before kind.Label given ≡ None → ClosesLabel (names_said before) given
unfolding closing_fault
closes_label before given h = closed_label (names_said before) given (label_in given) refl h

one_list : (o q : Option NameView) → option_to_list o ≡ option_to_list q → o ≡ q
one_list None None h = refl
one_list None (Some x) h = absurd cc
one_list (Some x) None h = absurd cc
one_list (Some x) (Some y) h = let same : x ≡ y = cc in ap (λ (n : NameView). Some n) same

-- the name that such a group says has no fault
pub name_fine : (before : List GroupView) (k : GroupKind) (given : List AssignmentView) (o : Option NameView) → option_to_list o ≡ name_part (record { kind = k; given = given }) → closing_fault before k given ≡ None → optional_name_fault (names_said before) o ≡ None
name_fine before kind.Range given o is h =
    let c = closes_range before given h in
    ap (optional_name_fault (names_said before)) (one_list o (range_name given c.range) (is ∙ rw c.is refl)) ∙ c.named
name_fine before kind.Label given o is h =
    let c = closes_label before given h in
    ap (optional_name_fault (names_said before)) (one_list o (Some c.name) (is ∙ rw c.is refl)) ∙ c.fine
name_fine before kind.Global given o is h = ap (optional_name_fault (names_said before)) (one_list o None is)
name_fine before kind.Segment given o is h = ap (optional_name_fault (names_said before)) (one_list o None is)
name_fine before kind.Include given o is h = ap (optional_name_fault (names_said before)) (one_list o None is)

-- a group that says a range marks it
pub ranged_more : (before : List GroupView) (g : GroupView) (r : RangeSpec) (old new : List Bool) → r ∷ [] ≡ range_part g
    → ((a : ℕ) → a < 0x1_0000 → get_or new a false ≡ (get_or old a false || has_address r a)) → AreRanged (ranges_of before) old → AreRanged (ranges_of (before ++ g ∷ [])) new
ranged_more before g r old new is marked m = rw (ranges_more before g, ← is) (range_added (ranges_of before) old new r m (part_ordered g r is) marked)

-- and one that says none marks none
pub ranged_same : (before : List GroupView) (g : GroupView) (table : List Bool) → [] ≡ range_part g → AreRanged (ranges_of before) table → AreRanged (ranges_of (before ++ g ∷ [])) table
ranged_same before g table is m = rw (ranges_more before g, ← is, append-nil (ranges_of before)) m
