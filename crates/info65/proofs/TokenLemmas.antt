-- The tokens of what is left.
use Rattle.std.proofs.Common.{add-one, ◌≡◌, ◌∙◌, ◌+◌, ◌<◌, ◌≤◌, ℕ, zero, suc, Bool, true, false, List, [], ◌∷◌, length, drop, get_or, refl, sym, arith}
use Rattle.std.proofs.lemmas.Bool.{ne_eqb, or_parts}
use Rattle.std.specs.Prelude.{◌==◌}
use Rattle.info65.specs.Words.{ended, found, is_blank, lexeme_at, opens_comment, semicolon, stops, tokens_after, tokens_of, with_token}

-- the rest of a token is passed over
pub passed : (skip line : ℕ) (bs : List ℕ) → tokens_after skip false line bs ≡ tokens_of line (drop skip bs)
unfolding tokens_after
passed (suc skip) line (b ∷ bs) = passed skip line bs
passed _ line _ = refl

dropped : (more b : ℕ) (bs : List ℕ) → drop more bs ≡ drop (more + 1) (b ∷ bs)
dropped more b bs = rw add-one refl

-- where a token begins
pub at_token : (line : ℕ) (rest : List ℕ) → 0 < length rest → stops rest → tokens_of line rest ≡ found line rest (lexeme_at line rest) (λ more. tokens_of line (drop (more + 1) rest))
unfolding tokens_after
at_token line [] some here = absurd (omega arith)
at_token line (b ∷ bs) some here = grind (arith, or_parts, passed)

-- a `;`
pub at_semicolon : (line : ℕ) (bs : List ℕ) → tokens_of line (59 ∷ bs) ≡ with_token (record { kind = semicolon; text = 59 ∷ []; line = line }) (tokens_of line bs)
unfolding tokens_after lexeme_at
at_semicolon line bs = refl

-- nothing is left
pub at_end : (in_comment : Bool) (line : ℕ) (rest : List ℕ) → length rest ≡ 0 → tokens_after 0 in_comment line rest ≡ ended line
unfolding tokens_after
at_end in_comment line [] none = refl
at_end in_comment line (b ∷ bs) none = absurd (omega arith)

-- a step of the loop over blanks and comments
pub at_line_feed : (in_comment : Bool) (line b : ℕ) (bs : List ℕ) → b ≡ 10 → tokens_after 0 in_comment line (b ∷ bs) ≡ tokens_of (line + 1) bs
unfolding tokens_after
at_line_feed in_comment line b bs is = rw is refl

pub in_comment_on : (line b : ℕ) (bs : List ℕ) → (b ≡ 10 → ⊥) → tokens_after 0 true line (b ∷ bs) ≡ tokens_after 0 true line bs
unfolding tokens_after
in_comment_on line b bs isnt = rw (ne_eqb b 10 isnt) refl

-- a comment ends at the first line feed, and with the text if there is none
pub to_line_feed : (line n : ℕ) (bs : List ℕ) → n ≤ length bs → ((k : ℕ) → k < n → get_or bs k 0 ≡ 10 → ⊥) → (n < length bs → get_or bs n 0 ≡ 10) → tokens_after 0 true line bs ≡ tokens_of line (drop n bs)
unfolding tokens_after
to_line_feed line zero [] low before here = refl
to_line_feed line zero (b ∷ bs) low before here = let feed : b ≡ 10 = here (omega arith) in at_line_feed true line b bs feed ∙ sym (at_line_feed false line b bs feed)
to_line_feed line (suc n) [] low before here = absurd (omega (arith, low))
to_line_feed line (suc n) (b ∷ bs) low before here =
    in_comment_on line b bs (before 0 (omega arith))
    ∙ to_line_feed line n bs (omega (arith, low)) (λ k lt. before (suc k) (omega (arith, lt))) (λ lt. here (omega (arith, lt)))

pub at_blank : (line b : ℕ) (bs : List ℕ) → is_blank b ≡ true → tokens_of line (b ∷ bs) ≡ tokens_of line bs
unfolding tokens_after
at_blank line b bs blank = let other : b == 10 ≡ false = grind arith in rw (other, blank) refl

pub at_comment : (line b : ℕ) (bs : List ℕ) → (b ≡ 10 → ⊥) → is_blank b ≡ false → opens_comment (b ∷ bs) ≡ true → tokens_of line (b ∷ bs) ≡ tokens_after 0 true line bs
unfolding tokens_after
at_comment line b bs isnt blank opens = rw (ne_eqb b 10 isnt, blank, opens) refl

-- what stands between tokens
pub ruleset passed_over = (at_blank, at_comment, at_line_feed)
