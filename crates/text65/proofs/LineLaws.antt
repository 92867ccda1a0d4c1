-- The first line of a text, and the rest.
use Rattle.std.proofs.Common.{◌≡◌, ℕ, suc, Bool, ◌+◌, ◌-◌, ◌<◌, ◌≤◌, List, [], ◌∷◌, length, take, drop, refl, ap, ◌∙◌, arith, inl, inr, sym, get_or, true, false}
use Rattle.std.specs.Prelude.{not, ◌==◌}
use Rattle.std.specs.List.{prefix_len}
use Rattle.std.proofs.lemmas.Bool.{cases_Bool, false_from_ne_true}
use Rattle.std.proofs.lemmas.List.{take_rest, take_all, drop_all, length-drop}
use Rattle.std.proofs.lemmas.List.Sums.{prefix_len-le-length, prefix_len_is}
use Rattle.memchr.specs.Find.{Nowhere, NoneBefore, Passes, is_byte}
use Rattle.text65.specs.Lines.{text_lines, onto_first}

abbrev pub in_line : ℕ → Bool
in_line b = not (b == 10)

-- one byte more before a first line of n bytes
one_more : (b n : ℕ) (bs : List ℕ) → text_lines bs ≡ take n bs ∷ text_lines (drop (n + 1) bs) → onto_first b (text_lines bs) ≡ take (1 + n) (b ∷ bs) ∷ text_lines (drop (1 + n + 1) (b ∷ bs))
one_more b n bs first =
    let k : 1 + n ≡ suc n = omega arith in
    let k2 : suc n + 1 ≡ suc (n + 1) = omega arith in
    rw (k, k2) (ap (onto_first b) first)

onto : (b : ℕ) (bs : List ℕ) → (0 < length bs → text_lines bs ≡ take (prefix_len in_line bs) bs ∷ text_lines (drop (prefix_len in_line bs + 1) bs))
    → onto_first b (text_lines bs) ≡ take (1 + prefix_len in_line bs) (b ∷ bs) ∷ text_lines (drop (1 + prefix_len in_line bs + 1) (b ∷ bs))
unfolding text_lines
onto b [] first = refl
onto b (c ∷ cs) first = one_more b (prefix_len in_line (c ∷ cs)) (c ∷ cs) (first (omega arith))

-- the bytes before the first line feed, if there is one, are the first line
first_of : (text : List ℕ) → 0 < length text → text_lines text ≡ take (prefix_len in_line text) text ∷ text_lines (drop (prefix_len in_line text + 1) text)
unfolding text_lines
first_of [] some = absurd (omega arith)
first_of (b ∷ bs) some = elim (cases_Bool (b == 10)) [
  | inl ends ↦ rw ends refl
  | inr goes ↦ rw goes (onto b bs (first_of bs))
]

-- the first line of a slice, and what is left
pub first_is_none : (text : List ℕ) → length text ≡ 0 → text_lines text ≡ []
unfolding text_lines
first_is_none [] h = refl
first_is_none (b ∷ bs) h = absurd (omega arith)

pub first_is_cut : (text : List ℕ) (len : ℕ) → len ≡ prefix_len in_line text → len < length text
    → (text_lines text ≡ take len text ∷ text_lines (take (length text - (len + 1)) (drop (len + 1) text))) × (length (take (length text - (len + 1)) (drop (len + 1) text)) < length text)
first_is_cut text len e lt =
    (rw (take_rest, e) (first_of text (omega arith)), rw take_rest (omega (arith, length-drop (len + 1) text)))

pub first_is_last : (text : List ℕ) (len : ℕ) → len ≡ prefix_len in_line text → length text ≤ len → 0 < length text
    → (text_lines text ≡ text ∷ text_lines []) × (0 < length text)
first_is_last text len e le lt =
    (first_of text lt ∙ rw (take_all (prefix_len in_line text) text (omega arith), drop_all (prefix_len in_line text + 1) text (omega arith)) refl, lt)

pub ruleset first_lines = (first_is_none, first_is_cut, first_is_last)

-- the first line ends at the first line feed, and with the text if there is none
in_line_not : (b : ℕ) → ((b == 10) ≡ true → ⊥) → in_line b ≡ true
in_line_not b other = rw (false_from_ne_true (b == 10) other) refl

in_line_feed : (b : ℕ) → (b == 10) ≡ true → in_line b ≡ false
in_line_feed b is = rw is refl

pub no_feed : (text : List ℕ) → Nowhere (Passes (is_byte 10) text) 0 (length text) → length text ≡ prefix_len in_line text
no_feed text none = sym (prefix_len_is in_line text (length text) 0 (omega arith) (λ k lt. in_line_not (get_or text k 0) (none k (omega arith) lt)) (λ lt. absurd (omega arith)))

pub at_feed : (text : List ℕ) (len : ℕ) → NoneBefore (Passes (is_byte 10) text) 0 (length text) len → Passes (is_byte 10) text len → len ≡ prefix_len in_line text
at_feed text len first here =
    sym (prefix_len_is in_line text len 0 (omega arith) (λ k lt. in_line_not (get_or text k 0) (first.before k (omega arith) lt)) (λ _. in_line_feed (get_or text len 0) here))

pub ruleset line_lens = (no_feed, at_feed)
