-- The parts of a text that is printed, where what follows it ends its last word.
use Rattle.std.specs.Prelude.{◌%◌, ◌++◌, ◌+◌, ◌/◌, ◌<◌, ◌==◌, ◌∷◌, ◌≡◌, ◌≤◌, codes, not}
use Rattle.stmt65.proofs.Lemmas.{Bool, List, [], and_parts, ap, append_assoc, arith, decimal_is_IsNumeral, decimal_nonempty, digit_from_value, drop, drop-drop, drop_at, eqb, false, length, list_all-append, ltb, ltb-true, min, nat_tests, refl, replicate, suc, sym, take_at, true, zero, ℕ, ◌∙◌}
use Rattle.std.specs.Str.Parse.{AllDigits, digits_value}
use Rattle.std.specs.Fmt.{decimal}
use Rattle.std.specs.Char.{digit_value, is_ascii_digit, is_ascii_hexdigit}
use Rattle.std.specs.List.{list_all, prefix_len}
use Rattle.stmt65.specs.Words.{Define, IsItem, Item, Listing, Mark, Number, Part, Spells, Text, Word, begins_with, define, digits2, digits4, distance_text, hex2, hex4, hex_digit, is_blank, is_text_byte, is_word_byte, is_word_start, mark, offset_text, part_at, parts, quoted}
use Rattle.stmt65.specs.Spelling.{IsNumber}
use Rattle.stmt65.specs.Parts.{number_of}
use Rattle.stmt65.proofs.Cases.{by_test}
use Rattle.stmt65.proofs.PartLemmas.{parts_blank, parts_part}
use Rattle.stmt65.proofs.ReadIsSpelled.{last}

-- whether the list begins with an element that passes
abbrev pub begins : (ℕ → Bool) → List ℕ → Bool
begins p [] = false
begins p (x ∷ xs) = p x

-- what may follow a word or a number, so that it ends there
abbrev pub Ends : List ℕ → Type 0
Ends rest = begins is_word_byte rest ≡ false

-- a word: how it begins, and how it goes on
abbrev pub IsWordText : List ℕ → Type 0
IsWordText [] = ⊥
IsWordText (b ∷ w) = (is_word_start b ≡ true) × (list_all is_word_byte w ≡ true)

pub prefix_stop : (p : ℕ → Bool) (xs ys : List ℕ) → list_all p xs ≡ true → begins p ys ≡ false → prefix_len p (xs ++ ys) ≡ length xs
prefix_stop p [] [] h g = refl
prefix_stop p [] (y ∷ ys) h g = rw g refl
prefix_stop p (x ∷ xs) ys h g = let a = and_parts (p x) (list_all p xs) h in rw a.0 (omega (arith, prefix_stop p xs ys a.1 g))

-- a test that passes where another one does
pub all_as : (p q : ℕ → Bool) → ((b : ℕ) → p b ≡ true → q b ≡ true) → (xs : List ℕ) → list_all p xs ≡ true → list_all q xs ≡ true
all_as p q k [] h = refl
all_as p q k (x ∷ xs) h = let a = and_parts (p x) (list_all p xs) h in rw (k x a.0, all_as p q k xs a.1) refl

-- ---- words

-- neither a blank nor a `;` begins a word or a number
pub word_begins : (b : ℕ) → is_word_start b ≡ true → (is_blank b ≡ false) × (eqb b 59 ≡ false)
word_begins b h = (grind (arith, nat_tests), grind (arith, nat_tests))

pub digit_begins : (b : ℕ) → is_ascii_digit b ≡ true → (is_blank b ≡ false) × (eqb b 59 ≡ false)
digit_begins b h = (grind (arith, nat_tests), grind (arith, nat_tests))

word_part : (b : ℕ) (w rest : List ℕ) → is_word_start b ≡ true → list_all is_word_byte w ≡ true → Ends rest → part_at Listing b (w ++ rest) ≡ (Word (b ∷ w), length w)
unfolding part_at
word_part b w rest h g e = rw (h, prefix_stop is_word_byte w rest g e, take_at w rest (length w) refl) refl

parts_blanks : (n : ℕ) (rest : List ℕ) → parts Listing (replicate n 32 ++ rest) ≡ parts Listing rest
parts_blanks zero rest = refl
parts_blanks (suc n) rest = parts_blank Listing 32 (replicate n 32 ++ rest) refl ∙ parts_blanks n rest

-- ---- bytes by themselves

-- what a byte would be the first of, or the end of the line
abbrev pub begun : ℕ → List Bool
begun b = is_blank b ∷ eqb b 59 ∷ is_word_start b ∷ is_ascii_digit b ∷ eqb b 36 ∷ eqb b 34 ∷ eqb b 58 ∷ eqb b 10 ∷ []

-- ---- strings

text_part : (t rest : List ℕ) → list_all is_text_byte t ≡ true → part_at Listing 34 (t ++ 34 ∷ rest) ≡ (Text t, length t + 1)
unfolding part_at
text_part t rest h = grind (arith, prefix_stop, take_at, drop_at)

-- ---- numbers

pub hex_is_digit : (n : ℕ) → is_ascii_hexdigit (hex_digit (n % 16)) ≡ true
hex_is_digit n = grind (arith, nat_tests)

pub hex_value : (n : ℕ) → digit_value (hex_digit (n % 16)) ≡ n % 16
hex_value n = grind (arith, nat_tests)

hex_is_word : (b : ℕ) → is_word_byte b ≡ false → is_ascii_hexdigit b ≡ false
hex_is_word b h = grind (arith, nat_tests)

ends_hex : (rest : List ℕ) → Ends rest → begins is_ascii_hexdigit rest ≡ false
ends_hex [] h = refl
ends_hex (b ∷ rest) h = hex_is_word b h

hex_part : (ds rest : List ℕ) → list_all is_ascii_hexdigit ds ≡ true → 0 < length ds → length ds ≤ 8 → Ends rest → part_at Listing 36 (ds ++ rest) ≡ (Number (36 ∷ ds), length ds)
unfolding part_at
hex_part ds rest h pos le e = grind (arith, prefix_stop, ends_hex, min, ltb, take_at)

is_digit : (d : ℕ) → digit_value d < 10 → is_ascii_digit d ≡ true
is_digit d h = let r = digit_from_value d h in grind (arith, nat_tests)

digits_pass : (ds : List ℕ) → AllDigits 10 ds → list_all is_ascii_digit ds ≡ true
digits_pass [] h = refl
digits_pass (d ∷ ds) h = rw (is_digit d h.0, digits_pass ds h.1) refl

pub digit_no_word : (d : ℕ) → is_ascii_digit d ≡ true → is_word_start d ≡ false
digit_no_word d h = grind (arith, nat_tests)

decimal_part : (d : ℕ) (ds rest : List ℕ) → list_all is_ascii_digit (d ∷ ds) ≡ true → Ends rest → part_at Listing d (ds ++ rest) ≡ (Number (d ∷ ds), length ds)
unfolding part_at
decimal_part d ds rest h e = grind (arith, and_parts, digit_no_word, prefix_stop, take_at)

parts_digits : (ds rest : List ℕ) → 0 < length ds → list_all is_ascii_digit ds ≡ true → Ends rest → parts Listing (ds ++ rest) ≡ Number ds ∷ parts Listing rest
parts_digits [] rest lt h e = absurd (omega arith)
parts_digits (d ∷ ds) rest lt h e = grind (arith, digit_begins, and_parts, parts_part, decimal_part, drop_at)

no_sign : (ds : List ℕ) → list_all is_ascii_digit ds ≡ true → (begins_with 36 ds ≡ false) × (begins_with 37 ds ≡ false) × (begins_with 39 ds ≡ false)
no_sign [] h = (refl, refl, refl)
no_sign (d ∷ ds) h = let is = (and_parts (is_ascii_digit d) (list_all is_ascii_digit ds) h).0 in (grind (arith, nat_tests), grind (arith, nat_tests), grind (arith, nat_tests))

-- ---- texts that are printed

-- whether a byte ends no line
abbrev pub in_line : ℕ → Bool
in_line b = not (b == 10)

abbrev pub InLine : List ℕ → Type 0
InLine text = list_all in_line text ≡ true

-- before what follows it, the text is cut into parts of which P holds, and it ends no line
pub record Lexes (P : List Part → Type 0) (text rest : List ℕ) : Type 0 where
  pub front : List Part
  pub split : parts Listing (text ++ rest) ≡ front ++ parts Listing rest
  pub is : P front
  pub in_line : InLine text

pub in_line_both : (xs ys : List ℕ) → InLine xs → InLine ys → InLine (xs ++ ys)
in_line_both xs ys h g = list_all-append in_line xs ys ∙ rw (h, g) refl

-- one text after the other
pub lexes_both : {P Q R : List Part → Type 0} (a b rest : List ℕ) → Lexes P a (b ++ rest) → Lexes Q b rest → ((ps qs : List Part) → P ps → Q qs → R (ps ++ qs)) → Lexes R (a ++ b) rest
lexes_both a b rest f g k = record {
  front = f.front ++ g.front;
  split = ap (parts Listing) (append_assoc a b rest) ∙ f.split ∙ ap (λ (ps : List Part). f.front ++ ps) g.split ∙ sym (append_assoc f.front g.front (parts Listing rest));
  is = k f.front g.front f.is g.is;
  in_line = in_line_both a b f.in_line g.in_line;
}

pub blanks_in_line : (n : ℕ) → InLine (replicate n 32)
blanks_in_line zero = refl
blanks_in_line (suc n) = blanks_in_line n

-- a text after blanks
pub lexes_blanks : {P : List Part → Type 0} (n : ℕ) (text rest : List ℕ) → Lexes P text rest → Lexes P (replicate n 32 ++ text) rest
lexes_blanks n text rest h = record {
  front = h.front;
  split = ap (parts Listing) (append_assoc (replicate n 32) text rest) ∙ parts_blanks n (text ++ rest) ∙ h.split;
  is = h.is;
  in_line = in_line_both (replicate n 32) text (blanks_in_line n) h.in_line;
}

start_in_line : (b : ℕ) → is_word_start b ≡ true → in_line b ≡ true
start_in_line b h = grind (arith, nat_tests)

pub lexes_word : {P : List Part → Type 0} (w rest : List ℕ) → IsWordText w → Ends rest → P (Word w ∷ []) → Lexes P w rest
lexes_word [] rest i e h = absurd i
lexes_word (b ∷ w) rest i e h = record { front = Word (b ∷ w) ∷ []; split = grind (arith, word_begins, parts_part, word_part, drop_at); is = h; in_line = rw (start_in_line b i.0) (all_as is_word_byte in_line (λ c k. grind (arith, nat_tests)) w i.1) }

pub lexes_text : {P : List Part → Type 0} (t rest : List ℕ) → list_all is_text_byte t ≡ true → P (Text t ∷ []) → Lexes P (quoted t) rest
lexes_text t rest i h =
    let d : drop (length t + 1) (t ++ 34 ∷ rest) ≡ rest = sym (drop-drop 1 (length t) (t ++ 34 ∷ rest)) ∙ ap (drop 1) (drop_at t (34 ∷ rest) (length t) refl) in
    record {
      front = Text t ∷ [];
      split = ap (λ (l : List ℕ). parts Listing (34 ∷ l)) (append_assoc t (34 ∷ []) rest) ∙ parts_part Listing 34 (t ++ 34 ∷ rest) refl refl ∙ rw (text_part t rest i, d) refl;
      is = h;
      in_line = in_line_both t (34 ∷ []) (all_as is_text_byte in_line (λ c k. grind (arith, nat_tests)) t i) refl;
    }

-- `:=`
pub lexes_define : (rest : List ℕ) → Lexes (IsItem define) (codes ":=") rest
unfolding part_at
lexes_define rest = record { front = Define ∷ []; split = parts_part Listing 58 (61 ∷ rest) refl refl; is = refl; in_line = refl }

-- the `:` of a label or of `a:`, where no `=` follows
pub lexes_colon : (rest : List ℕ) → begins_with 61 rest ≡ false → Lexes (IsItem (mark 58)) (codes ":") rest
unfolding part_at
lexes_colon rest h = record { front = Mark 58 ∷ []; split = parts_part Listing 58 rest refl refl ∙ rw h refl; is = refl; in_line = refl }

pub lexes_mark : (b : ℕ) (rest : List ℕ) → begun b ≡ replicate 8 false → Lexes (IsItem (mark b)) (b ∷ []) rest
unfolding part_at
lexes_mark b rest h = record { front = Mark b ∷ []; split = grind (arith, parts_part); is = refl; in_line = grind arith }

-- ---- numbers that are printed

-- `$` and the digits of a number
pub lexes_hex : (n : ℕ) (ds rest : List ℕ) → n ≡ digits_value 16 ds → list_all is_ascii_hexdigit ds ≡ true → 0 < length ds → length ds ≤ 8 → Ends rest → Lexes (IsNumber n) (36 ∷ ds) rest
unfolding number_of
lexes_hex n ds rest v h pos le e = record { front = Number (36 ∷ ds) ∷ []; split = grind (arith, parts_part, hex_part, drop_at); is = (36 ∷ ds, v, refl); in_line = all_as is_ascii_hexdigit in_line (λ c k. grind (arith, nat_tests)) ds h }

pub lexes_hex2 : (n : ℕ) (rest : List ℕ) → n < 256 → Ends rest → Lexes (IsNumber n) (hex2 n) rest
lexes_hex2 n rest lt e =
    lexes_hex n (digits2 n) rest (rw (hex_value (n / 16), hex_value n) (omega arith)) (rw (hex_is_digit (n / 16), hex_is_digit n) refl)
    (omega arith) (omega arith) e

pub lexes_hex4 : (n : ℕ) (rest : List ℕ) → n < 65536 → Ends rest → Lexes (IsNumber n) (hex4 n) rest
lexes_hex4 n rest lt e =
    lexes_hex n (digits4 n) rest (rw (hex_value (n / 4096), hex_value (n / 256), hex_value (n / 16), hex_value n) (omega arith))
    (rw (hex_is_digit (n / 4096), hex_is_digit (n / 256), hex_is_digit (n / 16), hex_is_digit n) refl) (omega arith) (omega arith) e

pub lexes_digits : {P : List Part → Type 0} (ds rest : List ℕ) → 0 < length ds → list_all is_ascii_digit ds ≡ true → Ends rest → P (Number ds ∷ []) → Lexes P ds rest
lexes_digits ds rest lt h e is = record { front = Number ds ∷ []; split = parts_digits ds rest lt h e; is = is; in_line = all_as is_ascii_digit in_line (λ c k. grind (arith, nat_tests)) ds h }

lexes_decimal : (n : ℕ) (rest : List ℕ) → n < 65536 → Ends rest → Lexes (IsNumber n) (decimal n) rest
unfolding number_of
lexes_decimal n rest lt e =
    let d = decimal_is_IsNumeral n (omega arith) in
    let are = digits_pass (decimal n) d.0.1 in
    let sign = no_sign (decimal n) are in
    lexes_digits (decimal n) rest (decimal_nonempty n (omega arith)) are e (decimal n, rw (sign.0, sign.1, sign.2, d.1) (omega arith), refl)

-- what is added to a name
pub lexes_offset : (h : Bool) (n : ℕ) (rest : List ℕ) → n < 65536 → Ends rest → Lexes (IsNumber n) (offset_text h n) rest
lexes_offset false n rest lt e = lexes_decimal n rest lt e
lexes_offset true n rest lt e = by_test (ltb n 256) (λ f. rw f (lexes_hex2 n rest (ltb-true n 256 f) e)) (λ f. rw f (lexes_hex4 n rest lt e))

pub lexes_distance : (h : Bool) (n : ℕ) (rest : List ℕ) → n < 65536 → Ends rest → Lexes (IsNumber n) (distance_text h n) rest
lexes_distance true n rest lt e = lexes_hex4 n rest lt e
lexes_distance false n rest lt e = lexes_decimal n rest lt e

-- ---- items one after the other

pub lexes_nothing : (rest : List ℕ) → Lexes (Spells []) [] rest
unfolding Spells
lexes_nothing rest = record { front = []; split = refl; is = refl; in_line = refl }

pub lexes_item : (i : Item) (is : List Item) (a b rest : List ℕ) → Lexes (IsItem i) a (b ++ rest) → Lexes (Spells is) b rest → Lexes (Spells (i ∷ is)) (a ++ b) rest
unfolding Spells
lexes_item i is a b rest f g = lexes_both a b rest f g (λ ps qs h k. (ps, qs, refl, h, k))

pub lexes_last : (i : Item) (a rest : List ℕ) → Lexes (IsItem i) a rest → Lexes (Spells (i ∷ [])) a rest
lexes_last i a rest f = record { front = f.front; split = f.split; is = last i f.front f.is; in_line = f.in_line }
