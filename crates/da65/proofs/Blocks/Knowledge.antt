-- Which names the lines above define: one fact for each base, both ways.
use Rattle.std.proofs.Common.{arith, ◌≡◌, ℕ, Bool, true, false, cond, eqb, List, ◌∷◌, ◌++◌, Option, Some, None, refl, ap, ◌∙◌, []}
use Rattle.std.specs.Prelude.{◌||◌}
use Rattle.std.specs.Str.{bytes_eq}
use Rattle.std.proofs.lemmas.Slice.Eq.{bytes_eq-Decides}
use Rattle.std.proofs.lemmas.Bool.{eqb-true, false_from_ne_true}
use Rattle.std.proofs.lemmas.List.Elements.{filter-append}
use Rattle.stmt65.specs.Words.{Definition, find_name, here, is_name, with_here}
use Rattle.text65.specs.Names.{has_name_form}
use Rattle.map65.specs.Words.{ImageView}
use Rattle.da65.specs.Words.{AreSound, Knows, KnowsAll, AddressNames, base_name, definition_of, definitions_of, is_base}
use Rattle.std.proofs.lemmas.Bool.Decides.{nat_tests}

-- ---- the first definition

abbrev pub first_of : List Definition → Option Definition
first_of [] = None
first_of (d ∷ ds) = Some d

first-is : (w : List ℕ) (ds : List Definition) → find_name w ds ≡ first_of (definitions_of w ds)
unfolding find_name
first-is w [] = refl
first-is w (d ∷ ds) = grind (arith, (first-is w ds))

-- ---- `*`

-- it is no name
no-here : (w : List ℕ) → is_name w ≡ true → bytes_eq here w ≡ false
unfolding is_name has_name_form
no-here w h = false_from_ne_true (bytes_eq here w) (λ e. absurd (let same : here ≡ w = (bytes_eq-Decides here w).0 e in let h' = rw (← same) at h in cc))

-- so with it all bases are known as without
pub knows_here : (image : ImageView) (m : AddressNames) (at : Option ℕ) (all : List Definition) → AreSound image m → KnowsAll m all → KnowsAll m (with_here at all)
knows_here image m None all names k = k
knows_here image m (Some at) all names k = record { found = λ v base. rw (no-here (base_name m v) (names.named v base)) (k.found v base) }

-- ---- one name

-- the names of two bases are one where the bases are
name-test : (image : ImageView) (m : AddressNames) (u v : ℕ) → AreSound image m → is_base m u ≡ true → is_base m v ≡ true → bytes_eq (base_name m u) (base_name m v) ≡ eqb u v
name-test image m u v names hu hv = grind (arith, bytes_eq-Decides)

pub knows_nothing : (m : AddressNames) → Knows m (λ v. false) []
knows_nothing m = record { found = λ v h. refl }

pub knows_same : (m : AddressNames) (p q : ℕ → Bool) (ds : List Definition) → Knows m p ds → ((v : ℕ) → is_base m v ≡ true → p v ≡ q v) → Knows m q ds
knows_same m p q ds k h = record { found = λ v b. k.found v b ∙ ap (λ (t : Bool). cond t (definition_of m v ∷ []) []) (h v b) }

-- one more base, that was not known
pub knows_more : (image : ImageView) (m : AddressNames) (p : ℕ → Bool) (ds : List Definition) (u : ℕ) → AreSound image m → Knows m p ds → is_base m u ≡ true → p u ≡ false
    → Knows m (λ v. p v || eqb u v) (ds ++ definition_of m u ∷ [])
knows_more image m p ds u names k hu new = grind (arith, filter-append, name-test, eqb-true, nat_tests)

-- what is found of a base, if it passes the test or not
pub knows_found : (m : AddressNames) (p : ℕ → Bool) (ds : List Definition) (v : ℕ) (t : Bool) → Knows m p ds → is_base m v ≡ true → p v ≡ t → find_name (base_name m v) ds ≡ first_of (cond t (definition_of m v ∷ []) [])
knows_found m p ds v t k h is = first-is (base_name m v) ds ∙ ap first_of (k.found v h) ∙ ap (λ (t : Bool). first_of (cond t (definition_of m v ∷ []) [])) is
