-- The laws of runs and of pieces.
use Rattle.std.proofs.Common.{◌≡◌, ◌∙◌, ℕ, ◌+◌, ◌==◌, ◌<◌, ◌≤◌, ◌&&◌, Bool, true, false, List, All, length, get_or, refl, ap, arith}
use Rattle.std.proofs.lemmas.Bool.{and_from, both_ways, eq-eqb, or_left, or_right}
use Rattle.std.proofs.lemmas.List.Folds.{list_any_at, list_any_none}
use Rattle.info65.specs.Words.{NameView, SegmentView}
use Rattle.map65.proofs.ItemLemmas.{in-run, is_cut_at, joined-if, joined-run, joined-uncut, one-run, run-if}
use Rattle.map65.proofs.RunLemmas.{segment-before}
use Rattle.map65.specs.Words.{AreAlike, AreOnePiece, AreOneRun, AreUnnamed, MapView, PieceLaw, RunLaw, borders, is_border, is_inside, is_own, is_wide, role_of, segment_at}

-- ---- runs

run-same : (m : MapView) (b a : ℕ) → AreOneRun m b a → (x : ℕ) → b ≤ x → x ≤ a → role_of m.info x ≡ role_of m.info b
run-same m b a run = one-run m (role_of m.info) (λ x here. here.same) b a run

-- no segment of a list has a border before the address
border-none : (segments : List SegmentView) (a : ℕ) → All (λ (s : SegmentView). s.first ≡ a → ⊥) segments → All (λ (s : SegmentView). s.last + 1 ≡ a → ⊥) segments → is_border segments a ≡ false
unfolding is_border
border-none segments a starts ends = grind (arith, list_any_none)

border-some : (segments : List SegmentView) (a i : ℕ) (d : SegmentView) → i < length segments → borders (get_or segments i d) a ≡ true → is_border segments a ≡ true
unfolding is_border
border-some segments a i d below is = list_any_at (λ (s : SegmentView). borders s a) segments i d below is

run-alike : (m : MapView) (b a : ℕ) → AreOneRun m b a → AreAlike m b a
run-alike m b a run = record {
  roles = run-same m b a run;
  starts = λ i d below after upto.
      let s : SegmentView = get_or m.info.segments i d in
      both_ways (is_border m.info.segments s.first) (in-run m s.first (run s.first after upto)).unbroken (border-some m.info.segments s.first i d below (or_left _ _ (eq-eqb s.first s.first refl)));
  ends = λ i d below after upto.
      let s : SegmentView = get_or m.info.segments i d in
      both_ways (is_border m.info.segments (s.last + 1)) (in-run m (s.last + 1) (run (s.last + 1) (omega (arith, after)) (omega (arith, upto)))).unbroken (border-some m.info.segments (s.last + 1) i d below (or_right _ _ (eq-eqb (s.last + 1) (s.last + 1) refl)));
}

alike-run : (m : MapView) (b a : ℕ) → is_inside m.image b ≡ true → is_inside m.image a ≡ true → AreAlike m b a → AreOneRun m b a
alike-run m b a b_inside a_inside alike x low high = grind (arith, run-if, border-none)

pub run_law : (m : MapView) → RunLaw m
run_law m = record {
  run = λ b a le b_inside a_inside. (run-alike m b a, alike-run m b a b_inside a_inside);
  segment = λ b a x run low high. one-run m (segment_at m) (segment-before m) b a run x low high;
}

-- ---- pieces

pub own-some : (names : List NameView) (a i : ℕ) (d : NameView) → i < length names → (get_or names i d).address ≡ a → is_own names a ≡ true
unfolding is_own
own-some names a i d below is = list_any_at (λ (n : NameView). n.address == a) names i d below (eq-eqb (get_or names i d).address a is)

unnamed-uncut : (m : MapView) (b a : ℕ) → AreUnnamed m b a → (x : ℕ) → b < x → x ≤ a → is_cut_at m x ≡ false
unfolding is_own
unnamed-uncut m b a none x low high = grind (arith, list_any_none)

narrow-uncut : (m : MapView) (b x : ℕ) → is_wide (role_of m.info b) ≡ false → role_of m.info x ≡ role_of m.info b → is_cut_at m x ≡ false
narrow-uncut m b x narrow role = ap (λ (w : Bool). w && is_own m.info.names x) (ap is_wide role ∙ narrow)

piece-unnamed : (m : MapView) (b a : ℕ) → is_wide (role_of m.info b) ≡ true → AreOneRun m b a → AreOnePiece m b a → AreUnnamed m b a
piece-unnamed m b a wide run piece i d below after upto =
    let x : ℕ = (get_or m.info.names i d).address in
    let role : is_wide (role_of m.info x) ≡ true = ap is_wide (run-same m b a run x (omega (arith, after)) upto) ∙ wide in
    both_ways (is_cut_at m x) (joined-uncut m x (piece x after upto)) (and_from _ _ role (own-some m.info.names x i d below refl))

pub piece_law : (m : MapView) → PieceLaw m
piece_law m = record {
  run = λ b a piece x low high. joined-run m x (piece x low high);
  narrow = λ b a le narrow run x low high. joined-if m x (run x low high) (narrow-uncut m b x narrow (run-same m b a run x (omega (arith, low)) high));
  wide = λ b a le wide run. (piece-unnamed m b a wide run, λ none x low high. joined-if m x (run x low high) (unnamed-uncut m b a none x low high));
}
