-- What follows a line feed changes no token before it.
use Rattle.std.proofs.Common.{◌≡◌, ◌∙◌, ◌==◌, ◌+◌, ◌-◌, ◌<◌, ◌≤◌, ℕ, zero, suc, Bool, true, false, List, [], ◌∷◌, ◌++◌, arith, length, refl, slice_index, sym, take}
use Rattle.std.specs.Prelude.{Result, Ok, Err}
use Rattle.std.specs.List.{prefix_len}
use Rattle.std.proofs.lemmas.Bool.{ne_eqb}
use Rattle.std.proofs.lemmas.List.{length-append, take-append-le}
use Rattle.std.proofs.lemmas.List.Sums.{prefix_len-le-length}
use Rattle.info65.specs.Lexemes.{number_at}
use Rattle.info65.specs.Words.{InfoFault, LexemeView, Stream, TokenView, character_at, found, in_class, is_blank, lexeme_at, opens_comment, refused, string_at, tokens_after, tokens_of, with_token, word_at}
use Rattle.info65.specs.declared.syntax.lexeme.Class.{Class}
use Rattle.info65.specs.declared.syntax.lexeme.Class.TheVariants as class
use Rattle.info65.proofs.Cases.{by_test}

-- a run of bytes ends before a line feed that does not belong to it
run_stops : (p : ℕ → Bool) (bs c : List ℕ) → p 10 ≡ false → prefix_len p (bs ++ 10 ∷ c) ≡ prefix_len p bs
run_stops p [] c stops = rw stops refl
run_stops p (b ∷ bs) c stops = by_test (p b) (λ yes. rw (yes, run_stops p bs c stops) refl) (λ no. rw no refl)

-- no byte up to the line feed depends on what follows it
byte_same : (bs c : List ℕ) (n : ℕ) → n ≤ length bs → slice_index (bs ++ 10 ∷ c) n ≡ slice_index (bs ++ 10 ∷ []) n
byte_same [] c zero low = refl
byte_same [] c (suc n) low = absurd (omega (arith, low))
byte_same (b ∷ bs) c zero low = refl
byte_same (b ∷ bs) c (suc n) low = byte_same bs c n (omega (arith, low))

front_same : (bs c : List ℕ) (n : ℕ) → n ≤ length bs → take n (bs ++ 10 ∷ c) ≡ take n (bs ++ 10 ∷ [])
front_same bs c n low = take-append-le n bs (10 ∷ c) low ∙ sym (take-append-le n bs (10 ∷ []) low)

number_same : (line : ℕ) (kind : Class) (radix sign : ℕ) (bs c : List ℕ) → in_class kind 10 ≡ false → number_at line kind radix sign (bs ++ 10 ∷ c) ≡ number_at line kind radix sign (bs ++ 10 ∷ [])
unfolding number_at
number_same line kind radix sign bs c stops =
    let p = in_class kind in
    let low = prefix_len-le-length p bs in
    rw (run_stops p bs c stops, run_stops p bs [] stops, byte_same bs c (prefix_len p bs) low, front_same bs c (prefix_len p bs) low) refl

not_whole : (bs c : List ℕ) (n : ℕ) → n ≤ length bs → (n == length (bs ++ 10 ∷ c)) ≡ false
not_whole bs c n low = ne_eqb n (length (bs ++ 10 ∷ c)) (λ e. let l = length-append bs (10 ∷ c) in absurd (omega (arith, e, l, low)))

string_same : (line : ℕ) (bs c : List ℕ) → string_at line (bs ++ 10 ∷ c) ≡ string_at line (bs ++ 10 ∷ [])
unfolding string_at in_class
string_same line bs c =
    let p = in_class class.Text in
    let low = prefix_len-le-length p bs in
    rw (run_stops p bs c refl, run_stops p bs [] refl, byte_same bs c (prefix_len p bs) low, front_same bs c (prefix_len p bs) low, not_whole bs c (prefix_len p bs) low, not_whole bs [] (prefix_len p bs) low) refl

character_same : (line : ℕ) (bs c : List ℕ) → character_at line (bs ++ 10 ∷ c) ≡ character_at line (bs ++ 10 ∷ [])
unfolding character_at
character_same line [] c = grind arith
character_same line (x ∷ []) c = grind arith
character_same line (x ∷ y ∷ bs) c = grind arith

word_same : (bs c : List ℕ) → word_at (bs ++ 10 ∷ c) ≡ word_at (bs ++ 10 ∷ [])
unfolding word_at in_class
word_same bs c = rw (run_stops (in_class class.Word) bs c refl, run_stops (in_class class.Word) bs [] refl) refl

-- a token does not depend on what follows the line feed behind it
lexeme_same : (line b : ℕ) (bs c : List ℕ) → lexeme_at line (b ∷ (bs ++ 10 ∷ c)) ≡ lexeme_at line (b ∷ (bs ++ 10 ∷ []))
unfolding lexeme_at in_class
lexeme_same line b bs c = rw (word_same bs c, number_same line class.Decimal 10 0 (b ∷ bs) c refl, number_same line class.Hexadecimal 16 1 bs c refl, string_same line bs c, character_same line bs c) refl

-- a byte that is no line feed stands before it
before_feed : (bs : List ℕ) (n : ℕ) → n ≤ length bs → slice_index (bs ++ 10 ∷ []) n ≡ 34 → n < length bs
before_feed [] zero low is = absurd (omega (arith, is))
before_feed [] (suc n) low is = absurd (omega (arith, low))
before_feed (b ∷ bs) zero low is = omega arith
before_feed (b ∷ bs) (suc n) low is = let rest = before_feed bs n (omega (arith, low)) is in omega (arith, rest)

word_within : (bs : List ℕ) → (word_at (bs ++ 10 ∷ [])).more ≤ length bs
unfolding word_at in_class
word_within bs = rw (run_stops (in_class class.Word) bs [] refl) (prefix_len-le-length (in_class class.Word) bs)

number_within : (line : ℕ) (kind : Class) (radix sign : ℕ) (bs : List ℕ) (p : LexemeView) → in_class kind 10 ≡ false → number_at line kind radix sign (bs ++ 10 ∷ []) ≡ Ok p → p.more ≤ sign + length bs - 1
unfolding number_at
number_within line kind radix sign bs p stops is =
    let low = prefix_len-le-length (in_class kind) bs in
    let now = rw (run_stops (in_class kind) bs [] stops) at is in
    grind (arith, low, now)

string_within : (line : ℕ) (bs : List ℕ) (p : LexemeView) → string_at line (bs ++ 10 ∷ []) ≡ Ok p → p.more ≤ length bs
unfolding string_at in_class
string_within line bs p is =
    let n = prefix_len (in_class class.Text) bs in
    let low = prefix_len-le-length (in_class class.Text) bs in
    let now = rw (run_stops (in_class class.Text) bs [] refl, not_whole bs [] n low) at is in
    grind (arith, low, now, before_feed bs n low)

character_within : (line : ℕ) (bs : List ℕ) (p : LexemeView) → character_at line (bs ++ 10 ∷ []) ≡ Ok p → p.more ≤ length bs
unfolding character_at
character_within line [] p is = grind arith
character_within line (x ∷ []) p is = grind arith
character_within line (x ∷ y ∷ bs) p is = grind arith

-- a token ends before the line feed behind it
lexeme_within : (line b : ℕ) (bs : List ℕ) (p : LexemeView) → lexeme_at line (b ∷ (bs ++ 10 ∷ [])) ≡ Ok p → p.more ≤ length bs
unfolding lexeme_at in_class
lexeme_within line b bs p is =
    let decimal = number_within line class.Decimal 10 0 (b ∷ bs) p refl in
    let hexadecimal = number_within line class.Hexadecimal 16 1 bs p refl in
    grind (arith, is, decimal, hexadecimal, word_within bs, string_within line bs p, character_within line bs p)

-- it holds of two streams with one token more before both, and of one fault twice
pub record IsKept (R : Stream → Stream → Type 0) : Type 0 where
  pub refuses : (e : InfoFault) → R (refused e) (refused e)
  pub goes : (t : TokenView) (a b : Stream) → R a b → R (with_token t a) (with_token t b)

opens_same : (b : ℕ) (bs c : List ℕ) → opens_comment (b ∷ (bs ++ 10 ∷ c)) ≡ opens_comment (b ∷ (bs ++ 10 ∷ []))
opens_same b bs c = rw (byte_same bs c 0 (omega arith)) refl

found_alike : (R : Stream → Stream → Type 0) → IsKept R → (line b : ℕ) (bs c d : List ℕ) (r : Result LexemeView InfoFault) (one other : ℕ → Stream) → lexeme_at line (b ∷ (bs ++ 10 ∷ [])) ≡ r
    → ((more : ℕ) → more ≤ length bs → R (one more) (other more))
    → R (found line (b ∷ (bs ++ 10 ∷ c)) r one) (found line (b ∷ (bs ++ 10 ∷ d)) r other)
found_alike R kept line b bs c d (Err e) one other is after = kept.refuses e
found_alike R kept line b bs c d (Ok p) one other is after =
    let low = lexeme_within line b bs p is in
    rw (front_same (b ∷ bs) c (p.more + 1) (omega (arith, low)), front_same (b ∷ bs) d (p.more + 1) (omega (arith, low))) (kept.goes _ _ _ (after p.more low))

-- what holds of the tokens of two texts, whatever line they begin on, holds with lines before both
pub alike : (R : Stream → Stream → Type 0) → IsKept R → (c d : List ℕ) → ((line : ℕ) → R (tokens_of line c) (tokens_of line d)) → (skip : ℕ) (in_comment : Bool) (line : ℕ) (xs : List ℕ) → skip ≤ length xs
    → R (tokens_after skip in_comment line (xs ++ 10 ∷ c)) (tokens_after skip in_comment line (xs ++ 10 ∷ d))
unfolding tokens_after
alike R kept c d same zero in_comment line [] low = same (line + 1)
alike R kept c d same (suc skip) in_comment line [] low = absurd (omega (arith, low))
alike R kept c d same (suc skip) in_comment line (b ∷ bs) low = alike R kept c d same skip in_comment line bs (omega (arith, low))
alike R kept c d same zero in_comment line (b ∷ bs) low =
    by_test (b == 10)
    (λ feed. rw feed (alike R kept c d same 0 false (line + 1) bs (omega arith)))
    (λ other. by_test in_comment
    (λ on. rw (other, on) (alike R kept c d same 0 true line bs (omega arith)))
    (λ off. by_test (is_blank b)
    (λ blank. rw (other, off, blank) (alike R kept c d same 0 false line bs (omega arith)))
    (λ solid. by_test (opens_comment (b ∷ (bs ++ 10 ∷ [])))
    (λ opens. rw (other, off, solid, opens_same b bs c, opens_same b bs d, opens) (alike R kept c d same 0 true line bs (omega arith)))
    (λ closed. rw (other, off, solid, opens_same b bs c, opens_same b bs d, closed, lexeme_same line b bs c, lexeme_same line b bs d)
    (found_alike R kept line b bs c d (lexeme_at line (b ∷ (bs ++ 10 ∷ []))) _ _ refl (λ more within. alike R kept c d same more false line bs within))))))
