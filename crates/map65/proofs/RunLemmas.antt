-- Runs: what their definition says of segments, and how they are read from cells.
use Rattle.std.proofs.Common.{◌≡◌, ◌≢◌, ◌∙◌, ℕ, ◌-◌, ◌/◌, ◌%◌, ◌<◌, ◌≤◌, ◌&&◌, ◌==◌, not, Bool, true, false, Option, Some, None, List, [], ◌∷◌, refl, ap, ap₂, sym, arith, if◌then◌else◌}
use Rattle.std.specs.List.{find}
use Rattle.std.specs.Option.{option_map}
use Rattle.std.proofs.lemmas.Bool.{and_from, and_parts, cond-true, eq-eqb, eqb-true, false_from_ne_true, false≢true, ne_eqb, not-true, or_parts}
use Rattle.std.proofs.lemmas.Bool.Decides.{nat_tests}
use Rattle.std.specs.Cmp.{both_ways}
use Rattle.info65.specs.Words.{SegmentView, contains, segment_covering}
use Rattle.map65.specs.Words.{Code, MapView, RangeType, are_one_run, bit, borders, cell_of, code_of, coded, end_of, has_border, is_border, is_in_run, is_inside, role_at, role_of, segment_at}
use Rattle.map65.proofs.CellLemmas.{code-small, coded-code, has_border-is}
use Rattle.map65.proofs.ItemLemmas.{InRun, in-run, inside-if, run-if}

-- ---- segments

-- where no border stands, an address belongs to the segments of the one before it
contains-same : (s : SegmentView) (a : ℕ) → 0 < a → borders s a ≡ false → contains s a ≡ contains s (a - 1)
contains-same s a some none = grind (arith, nat_tests, some, none)

found-same : (segments : List SegmentView) (a : ℕ) → 0 < a → is_border segments a ≡ false → find (λ s. contains s a) segments ≡ find (λ s. contains s (a - 1)) segments
unfolding is_border
found-same [] a some none = refl
found-same (s ∷ rest) a some none =
    let parts = or_parts (borders s a) (is_border rest a) none in
    ap₂ (λ (t : Bool) (o : Option SegmentView). if t then Some s else o) (contains-same s a some parts.0) (found-same rest a some parts.1)

pub segment-before : (m : MapView) (a : ℕ) → InRun m a → segment_at m (a - 1) ≡ segment_at m a
unfolding segment_at segment_covering
segment-before m a here = sym (ap (option_map (λ (s : SegmentView). s.name)) (found-same m.info.segments a (omega (arith, here.low)) here.unbroken))

-- address 0 is the first of its run
pub first_run : (m : MapView) (a : ℕ) → a ≡ 0 → is_in_run m a ≡ false
first_run m a is = false_from_ne_true (is_in_run m a) (λ run. absurd (omega (arith, is, (in-run m a run).low)))

-- ---- roles

pub role_at-inside : (m : MapView) (a : ℕ) → m.image.start ≤ a → a < end_of m.image → role_at m a ≡ Some (role_of m.info a)
unfolding role_at
role_at-inside m a low high = cond-true (is_inside m.image a) _ _ (inside-if m a low high)

-- an address that has a role
pub record HasRole (m : MapView) (a : ℕ) (r : RangeType) : Type 0 where
  pub inside : is_inside m.image a ≡ true
  pub low : m.image.start ≤ a
  pub high : a < end_of m.image
  pub is : role_of m.info a ≡ r

pub some_same : (r q : RangeType) → Some r ≡ Some q → r ≡ q
some_same r q is = cc

pub has-role : (m : MapView) (a : ℕ) (r : RangeType) → role_at m a ≡ Some r → HasRole m a r
unfolding role_at
has-role m a r = grind arith

-- ---- codes

same-code : (r q : Option RangeType) → code_of r ≡ code_of q → r ≡ q
same-code r q is = sym (coded-code r) ∙ ap coded is ∙ coded-code q

some-code : (r : RangeType) → 0 < code_of (Some r)
unfolding code_of
some-code Code = omega arith
some-code _ = omega arith

-- what the lower four bits say
pub plain-code : (c : ℕ) (r : Option RangeType) (n : ℕ) → n < 8 → c % 128 ≡ cell_of r n → c % 16 ≡ code_of r
unfolding cell_of
plain-code c r n small is = omega (arith, is, code-small r)

-- ---- the cells of an address and of the one before it

module _ (m : MapView) (a c d : ℕ) (some : 0 < a) (before : c % 16 ≡ code_of (role_at m (a - 1))) (here : d % 16 ≡ code_of (role_at m a)) (border : d / 256 ≡ bit (is_border m.info.segments a)) where
  alike-by : (o : Option RangeType) → role_at m a ≡ o → role_at m (a - 1) ≡ o → code_of o ≢ 0 → is_border m.info.segments a ≡ false → is_in_run m a ≡ true
  unfolding code_of
  alike-by None is is_before some_code unbroken = absurd (some_code refl)
  alike-by (Some r) is is_before some_code unbroken =
      let at = has-role m a r is in
      let past = has-role m (a - 1) r is_before in
      run-if m a (record { low = omega (arith, some, past.low); high = at.high; same = past.is ∙ sym at.is; unbroken = unbroken })

  run-alike : are_one_run c d ≡ true → is_in_run m a ≡ true
  unfolding are_one_run
  run-alike is =
      let outer = and_parts (c % 16 == d % 16) (not (d % 16 == 0) && not (has_border d)) is in
      let inner = and_parts (not (d % 16 == 0)) (not (has_border d)) outer.1 in
      let same : role_at m (a - 1) ≡ role_at m a = same-code _ _ (sym before ∙ eqb-true (c % 16) (d % 16) outer.0 ∙ here) in
      let some_code : code_of (role_at m a) ≢ 0 = λ none. false≢true (sym (not-true (d % 16 == 0) inner.0) ∙ eq-eqb (d % 16) 0 (here ∙ none)) in
      alike-by (role_at m a) refl same some_code (sym (has_border-is d (is_border m.info.segments a) border) ∙ not-true (has_border d) inner.1)

  alike-run : is_in_run m a ≡ true → are_one_run c d ≡ true
  unfolding are_one_run
  alike-run run =
      let at = in-run m a run in
      let first : role_at m (a - 1) ≡ Some (role_of m.info (a - 1)) = role_at-inside m (a - 1) (omega (arith, at.low)) (omega (arith, at.high)) in
      let second : role_at m a ≡ Some (role_of m.info a) = role_at-inside m a (omega (arith, at.low)) at.high in
      let same : c % 16 ≡ d % 16 = before ∙ ap code_of (first ∙ ap Some at.same ∙ sym second) ∙ sym here in
      let code : d % 16 ≡ code_of (Some (role_of m.info a)) = here ∙ ap code_of second in
      and_from _ _ (eq-eqb (c % 16) (d % 16) same)
      (and_from _ _ (ap not (ne_eqb (d % 16) 0 (λ none. omega (arith, code, none, some-code (role_of m.info a)))))
      (ap not (has_border-is d (is_border m.info.segments a) border ∙ at.unbroken)))

  pub run_cells : are_one_run c d ≡ is_in_run m a
  run_cells = both_ways (are_one_run c d) (is_in_run m a) run-alike alike-run
