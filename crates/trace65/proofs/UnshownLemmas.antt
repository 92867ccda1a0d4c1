-- Of the addresses of an image that pass a test.
use Rattle.std.proofs.Common.{◌≡◌, ◌+◌, ◌∙◌, ℕ, Bool, true, false, List, [], ◌∷◌, ◌++◌, ap, sym, refl, arith, cond}
use Rattle.std.specs.List.{filter}
use Rattle.std.proofs.lemmas.List.{append-nil}
use Rattle.std.proofs.lemmas.List.Elements.{filter-append}
use Rattle.map65.specs.Words.{addresses}
use Rattle.map65.proofs.Public.{addresses_more}

no-addresses : (p : ℕ → Bool) (a : ℕ) → filter p (addresses 0 a) ≡ []
unfolding addresses
no-addresses p a = refl

-- none so far
pub filter_none : (p : ℕ → Bool) (a : ℕ) (found : List ℕ) → found ≡ [] → found ≡ filter p (addresses 0 a)
filter_none p a found is = is ∙ sym (no-addresses p a)

-- one address more
filter-next : (p : ℕ → Bool) (k a : ℕ) → filter p (addresses (k + 1) a) ≡ filter p (addresses k a) ++ cond (p (a + k)) ((a + k) ∷ []) []
filter-next p k a = ap (filter p) (addresses_more k a) ∙ filter-append p (addresses k a) ((a + k) ∷ [])

-- it passes the test
pub filter_hit : (p : ℕ → Bool) (k a at : ℕ) (hit : Bool) (old new : List ℕ) → at ≡ a + k → hit ≡ p at → hit ≡ true → old ≡ filter p (addresses k a) → new ≡ old ++ at ∷ []
    → new ≡ filter p (addresses (k + 1) a)
filter_hit p k a at hit old new here is so before more = grind (arith, (filter-next p k a))

-- it does not
pub filter_miss : (p : ℕ → Bool) (k a at : ℕ) (hit : Bool) (old new : List ℕ) → at ≡ a + k → hit ≡ p at → hit ≡ false → old ≡ filter p (addresses k a) → new ≡ old
    → new ≡ filter p (addresses (k + 1) a)
filter_miss p k a at hit old new here is so before same = grind (arith, (filter-next p k a), append-nil)
