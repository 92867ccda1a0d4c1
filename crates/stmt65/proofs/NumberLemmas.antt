-- A number that is read digit by digit, and stops at the greatest number of 64 bits.
use Rattle.std.specs.Prelude.{◌*◌, ◌++◌, ◌+◌, ◌<◌, ◌∷◌, ◌≡◌}
use Rattle.stmt65.proofs.Lemmas.{List, [], ap, arith, get_or, length, min, refl, take, take_more, ℕ, ◌∙◌}
use Rattle.std.specs.Char.{digit_value}
use Rattle.std.specs.Str.Parse.{digits_value, digits_value_after}

digits_value_after-push : (r n : ℕ) (xs : List ℕ) (d : ℕ) → digits_value_after r n (xs ++ d ∷ []) ≡ digits_value_after r n xs * r + digit_value d
digits_value_after-push r n [] d = refl
digits_value_after-push r n (x ∷ xs) d = digits_value_after-push r (n * r + digit_value x) xs d

step : (v r d limit : ℕ) → 0 < r → min (v * r + d) limit ≡ min (min (min v limit * r) limit + d) limit
step v r d limit pos = grind arith

pub capped_more : (r : ℕ) (ds : List ℕ) (i limit : ℕ) → 0 < r → i < length ds → min (digits_value r (take (i + 1) ds)) limit ≡ min (min (min (digits_value r (take i ds)) limit * r) limit + digit_value (get_or ds i 0)) limit
capped_more r ds i limit pos lt =
    ap (λ (xs : List ℕ). min (digits_value r xs) limit) (take_more ds i 0 lt)
    ∙ ap (λ (v : ℕ). min v limit) (digits_value_after-push r 0 (take i ds) (get_or ds i 0))
    ∙ step (digits_value r (take i ds)) r (digit_value (get_or ds i 0)) limit pos
