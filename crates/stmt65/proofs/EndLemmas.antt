-- The last of the addresses after lines.
use Rattle.std.specs.Prelude.{◌++◌, ◌-◌, ◌∷◌, ◌≡◌, replicate}
use Rattle.stmt65.proofs.Lemmas.{List, Option, [], ap, append-nil, arith, length, length-append, refl, suc, sym, zero, ℕ, ◌∙◌}
use Rattle.std.specs.Option.{option_map}
use Rattle.std.specs.List.{slice_get}
use Rattle.stmt65.specs.Code.LineEnds.{ends_at, ends_of}
use Rattle.stmt65.specs.declared.assembling.line_ends.Step.{Step}

abbrev last : {A : Type 0} → List A → Option A
last xs = slice_get xs (length xs - 1)

last_after : {A : Type 0} (xs : List A) (y : A) (ys : List A) → last (xs ++ y ∷ ys) ≡ last (y ∷ ys)
last_after [] y ys = refl
last_after (x ∷ xs) y ys = grind (arith, (last_after xs y ys), length-append)

last_same : (n y : ℕ) → last (y ∷ replicate n y) ≡ last (y ∷ [])
last_same zero y = refl
last_same (suc n) y = last_after (y ∷ []) y (replicate n y) ∙ last_same n y

pub last_end : (steps : List Step) → last (ends_of steps) ≡ option_map (λ s. s.end) (last steps)
last_end [] = refl
last_end (s ∷ []) = ap last (append-nil (ends_at s)) ∙ last_same s.more s.end
last_end (s ∷ t ∷ ts) = last_after (ends_at s) t.end _ ∙ last_end (t ∷ ts) ∙ ap (λ (o : Option Step). option_map (λ s. s.end) o) (sym (last_after (s ∷ []) t ts))
