-- Searches in lists.
use Rattle.std.specs.Prelude.{◌≡◌, Bool, true, List, [], ◌∷◌, Some}
use Rattle.std.specs.List.{find}
use Rattle.std.proofs.lemmas.Bool.{cond_both}

-- what a search finds passes its test
pub find-passes : {X : Type 0} (p : X → Bool) (xs : List X) (x : X) → find p xs ≡ Some x → p x ≡ true
find-passes p [] x h = cc
find-passes p (y ∷ xs) x h =
    cond_both (p y) (Some y) (find p xs) (λ o. o ≡ Some x → p x ≡ true)
    (λ passes e. let same : y ≡ x = cc in rw same at passes) (λ _ e. find-passes p xs x e) h
