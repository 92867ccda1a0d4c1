-- Two words, letter by letter.
use Rattle.std.proofs.Common.{◌≡◌, ◌∙◌, ◌<◌, ◌≤◌, ◌+◌, ◌&&◌, ℕ, List, [], ◌∷◌, arith, drop, false, get_or, length, refl, true}
use Rattle.std.proofs.lemmas.Bool.{and_right}
use Rattle.std.proofs.lemmas.Bool.Decides.{nat_tests}
use Rattle.std.proofs.lemmas.List.{at_drop_all, at_drop_more}
use Rattle.std.specs.Char.{eq_ignore_ascii_case, to_ascii_lowercase, to_ascii_uppercase}
use Rattle.std.specs.Prelude.{◌||◌, ◌==◌}
use Rattle.std.specs.Str.{str_eq_ignore_ascii_case}

-- a letter is one of two bytes
pub letter_cases : (b c : ℕ) → (b == to_ascii_uppercase c || b == to_ascii_lowercase c) ≡ eq_ignore_ascii_case b c
letter_cases b c = grind (arith, nat_tests)

pub word_next : (ts ws : List ℕ) (i : ℕ) → i < length ts → i < length ws
    → str_eq_ignore_ascii_case (drop i ts) (drop i ws) ≡ (eq_ignore_ascii_case (get_or ts i 0) (get_or ws i 0) && str_eq_ignore_ascii_case (drop (i + 1) ts) (drop (i + 1) ws))
word_next ts ws i here there =
    at_drop_more (λ l. str_eq_ignore_ascii_case l (drop i ws)) ts i 0 here
    ∙ at_drop_more (λ l. str_eq_ignore_ascii_case (get_or ts i 0 ∷ drop (i + 1) ts) l) ws i 0 there

pub word_end : (ts ws : List ℕ) (i : ℕ) → length ts ≤ i → length ws ≤ i → str_eq_ignore_ascii_case (drop i ts) (drop i ws) ≡ true
word_end ts ws i past also =
    at_drop_all (λ l. str_eq_ignore_ascii_case l (drop i ws)) ts i past ∙ at_drop_all (λ l. str_eq_ignore_ascii_case [] l) ws i also

-- words of different lengths are not the same
pub word_long : (ts ws : List ℕ) → (length ts ≡ length ws → ⊥) → str_eq_ignore_ascii_case ts ws ≡ false
word_long [] [] other = absurd (other refl)
word_long [] (w ∷ ws) other = refl
word_long (t ∷ ts) [] other = refl
word_long (t ∷ ts) (w ∷ ws) other = and_right (eq_ignore_ascii_case t w) (str_eq_ignore_ascii_case ts ws) (word_long ts ws (λ same. other (omega (arith, same))))

pub ruleset words_told = (word_next, word_end, word_long)
