-- The parts of a line, step by step, and where they stand.
use Rattle.std.specs.Prelude.{◌&&◌, ◌++◌, ◌+◌, ◌-◌, ◌<◌, ◌==◌, ◌∷◌, ◌≡◌, ◌≢◌, ◌≤◌, nat_lt}
use Rattle.stmt65.proofs.Lemmas.{Bool, List, [], add-one, and_parts, ap, arith, drop, drop-drop, eqb, eqb-true, false, get_or, length, length-drop, lt-ltb, ne_eqb, refl, suc, sym, take, take_rest, true, zero, ℕ, ◌∙◌}
use Rattle.std.specs.Char.{is_ascii_digit}
use Rattle.std.specs.List.{list_all, prefix_len}
use Rattle.stmt65.specs.Words.{AreBlanks, GoesOver, Language, Listing, Number, Part, Repair, Word, alone_at, begins_with, hex_len, is_blank, is_text_byte, is_word_byte, is_word_start, part_at, part_text, parts, parts_after}
use Rattle.stmt65.specs.Places.{PlacesView}
use Rattle.stmt65.specs.Signs.{colon, dollar, equals, quote}
use Rattle.stmt65.proofs.Cases.{by_test}

pub parts_after-drop : (l : Language) (skip : ℕ) (bs : List ℕ) → parts_after l skip bs ≡ parts l (drop skip bs)
unfolding parts_after
parts_after-drop l zero bs = refl
parts_after-drop l (suc skip) [] = refl
parts_after-drop l (suc skip) (b ∷ bs) = parts_after-drop l skip bs

pub parts_nil : (l : Language) → parts l [] ≡ []
unfolding parts_after
parts_nil l = refl

pub parts_blank : (l : Language) (b : ℕ) (bs : List ℕ) → is_blank b ≡ true → parts l (b ∷ bs) ≡ parts l bs
unfolding parts_after
parts_blank l b bs h = rw h refl

pub parts_remark : (l : Language) (bs : List ℕ) → parts l (59 ∷ bs) ≡ []
unfolding parts_after
parts_remark l bs = refl

pub parts_part : (l : Language) (b : ℕ) (bs : List ℕ) → is_blank b ≡ false → eqb b 59 ≡ false → parts l (b ∷ bs) ≡ (part_at l b bs).0 ∷ parts l (drop (part_at l b bs).1 bs)
unfolding parts_after
parts_part l b bs h g = rw (h, g) (ap (λ (ps : List Part). (part_at l b bs).0 ∷ ps) (parts_after-drop l (part_at l b bs).1 bs))

-- ---- blanks in front

one_more : (b n : ℕ) (bs : List ℕ) → drop (1 + n) (b ∷ bs) ≡ drop n bs
one_more b n bs = let e : 1 + n ≡ suc n = omega arith in rw e refl

after_blank : (b : ℕ) (bs : List ℕ) → is_blank b ≡ true → drop (prefix_len is_blank (b ∷ bs)) (b ∷ bs) ≡ drop (prefix_len is_blank bs) bs
after_blank b bs e = rw e (one_more b (prefix_len is_blank bs) bs)

-- blanks at the beginning are no parts
pub parts_begin : (l : Language) (bs : List ℕ) → parts l (drop (prefix_len is_blank bs) bs) ≡ parts l bs
parts_begin l [] = refl
parts_begin l (b ∷ bs) = by_test (is_blank b) (λ e. ap (parts l) (after_blank b bs e) ∙ parts_begin l bs ∙ sym (parts_blank l b bs e)) (λ e. rw e refl)

-- as many bytes as pass in front, or fewer, all pass
pub run_passes : (p : ℕ → Bool) (n : ℕ) (xs : List ℕ) → n ≤ prefix_len p xs → list_all p (take n xs) ≡ true
run_passes p zero xs le = refl
run_passes p (suc n) [] le = refl
run_passes p (suc n) (x ∷ xs) le = grind (arith, by_test, (run_passes p n xs))

-- what follows them is none
pub no_blank : (bs : List ℕ) → 0 < length (drop (prefix_len is_blank bs) bs) → is_blank (get_or (drop (prefix_len is_blank bs) bs) 0 0) ≡ false
no_blank [] lt = absurd (omega arith)
no_blank (b ∷ bs) lt = by_test (is_blank b) (λ e. let f = after_blank b bs e in rw f (no_blank bs (rw f at lt))) (λ e. rw e e)

-- ---- what a part is written with

take_one : (b n : ℕ) (bs : List ℕ) → b ∷ take n bs ≡ take (n + 1) (b ∷ bs)
take_one b n bs = rw add-one refl

-- one byte more
take_next : (c n : ℕ) (bs : List ℕ) → begins_with c (drop n bs) ≡ true → take n bs ++ c ∷ [] ≡ take (n + 1) bs
take_next c zero [] h = absurd cc
take_next c (suc n) [] h = absurd cc
take_next c zero (b ∷ bs) h = ap (λ (x : ℕ). x ∷ []) (sym (eqb-true b c h))
take_next c (suc n) (b ∷ bs) h = rw add-one (ap (λ (xs : List ℕ). b ∷ xs) (take_next c n bs h ∙ ap (λ (k : ℕ). take k bs) (add-one n)))

define_text : (b : ℕ) (bs : List ℕ) → b ≡ 58 → begins_with 61 bs ≡ true → 58 ∷ 61 ∷ [] ≡ take 2 (b ∷ bs)
define_text b [] e h = absurd cc
define_text b (c ∷ bs) e h = rw (e, eqb-true c 61 h) refl

quoted_text : (b n : ℕ) (bs : List ℕ) → b ≡ 34 → begins_with 34 (drop n bs) ≡ true → 34 ∷ (take n bs ++ 34 ∷ []) ≡ take ((n + 1) + 1) (b ∷ bs)
quoted_text b n bs e h = ap (λ (xs : List ℕ). 34 ∷ xs) (take_next 34 n bs h) ∙ rw e (take_one 34 (n + 1) bs)

alone_text : (l : Language) (b : ℕ) (bs : List ℕ) → part_text (alone_at l b bs).0 ≡ take ((alone_at l b bs).1 + 1) (b ∷ bs)
alone_text Listing b bs = refl
alone_text Repair b bs = grind (arith, by_test, take_one)

text_at : (l : Language) (b : ℕ) (bs : List ℕ) → part_text (part_at l b bs).0 ≡ take ((part_at l b bs).1 + 1) (b ∷ bs)
unfolding part_at
text_at l b bs =
    by_test (is_word_start b)
    (λ e. rw e (take_one b _ bs))
    (λ e. rw e (by_test (is_ascii_digit b)
    (λ d. rw d (take_one b _ bs))
    (λ d. rw d (by_test ((b == dollar) && nat_lt 0 (hex_len bs))
    (λ x. rw x (take_one b (hex_len bs) bs))
    (λ x. rw x (by_test ((b == quote) && begins_with quote (drop (prefix_len is_text_byte bs) bs))
    (λ q. let two = and_parts (b == quote) (begins_with quote (drop (prefix_len is_text_byte bs) bs)) q in
    rw q (quoted_text b (prefix_len is_text_byte bs) bs (eqb-true b quote two.0) two.1))
    (λ q. rw q (by_test ((b == colon) && begins_with equals bs)
    (λ c. let two = and_parts (b == colon) (begins_with equals bs) c in
    rw c (define_text b bs (eqb-true b colon two.0) two.1))
    (λ c. rw c (alone_text l b bs))))))))))

-- ---- the part with which a slice begins

pub part_text_here : (l : Language) (bytes : List ℕ) (p : Part) (more : ℕ) → 0 < length bytes → p ≡ (part_at l (get_or bytes 0 0) (drop 1 bytes)).0 → more ≡ (part_at l (get_or bytes 0 0) (drop 1 bytes)).1 → part_text p ≡ take (more + 1) bytes
part_text_here l [] p more lt e f = absurd (omega arith)
part_text_here l (b ∷ bs) p more lt e f = rw (e, f) (text_at l b bs)

pub part_step : (l : Language) (bytes : List ℕ) (p : Part) (more : ℕ) → 0 < length bytes → (0 < length bytes → is_blank (get_or bytes 0 0) ≡ false) → get_or bytes 0 0 ≢ 59
    → p ≡ (part_at l (get_or bytes 0 0) (drop 1 bytes)).0 → more ≡ (part_at l (get_or bytes 0 0) (drop 1 bytes)).1 → parts l bytes ≡ p ∷ parts l (drop (more + 1) bytes)
part_step l [] p more lt blank remark e f = absurd (omega arith)
part_step l (b ∷ bs) p more lt blank remark e f = rw (e, f, add-one) (parts_part l b bs (blank lt) (ne_eqb b 59 remark))

pub parts_at_end : (l : Language) (bytes : List ℕ) → length bytes ≡ 0 → parts l bytes ≡ []
parts_at_end l [] h = parts_nil l
parts_at_end l (b ∷ bs) h = absurd (omega arith)

pub parts_at_remark : (l : Language) (bytes : List ℕ) → 0 < length bytes → get_or bytes 0 0 ≡ 59 → parts l bytes ≡ []
parts_at_remark l [] lt h = absurd (omega arith)
parts_at_remark l (b ∷ bs) lt h = ap (λ (c : ℕ). parts l (c ∷ bs)) h ∙ parts_remark l bs

pub ruleset lexing = (part_text_here, part_step, parts_at_end, parts_at_remark)

-- ---- a part that is a prefix of the slice

take_first : (bytes : List ℕ) (n : ℕ) → 0 < length bytes → take (n + 1) bytes ≡ get_or bytes 0 0 ∷ take n (drop 1 bytes)
take_first [] n lt = absurd (omega arith)
take_first (b ∷ bs) n lt = rw add-one refl

pub word_part : (l : Language) (bytes : List ℕ) (n : ℕ) → 0 < length bytes → is_word_start (get_or bytes 0 0) ≡ true → n ≡ prefix_len is_word_byte (take (length bytes - 1) (drop 1 bytes)) → Word (take (n + 1) bytes) ≡ (part_at l (get_or bytes 0 0) (drop 1 bytes)).0
unfolding part_at
word_part l bytes n lt h e =
    let e' = rw take_rest at e in
    ap Word (take_first bytes n lt) ∙ rw (h, e') refl

pub decimal_part : (l : Language) (bytes : List ℕ) (n : ℕ) → 0 < length bytes → is_word_start (get_or bytes 0 0) ≡ false → is_ascii_digit (get_or bytes 0 0) ≡ true → n ≡ prefix_len is_ascii_digit (take (length bytes - 1) (drop 1 bytes)) → Number (take (n + 1) bytes) ≡ (part_at l (get_or bytes 0 0) (drop 1 bytes)).0
unfolding part_at
decimal_part l bytes n lt g h e =
    let e' = rw take_rest at e in
    ap Number (take_first bytes n lt) ∙ rw (g, h, e') refl

pub hex_part : (l : Language) (bytes : List ℕ) (n : ℕ) → 0 < length bytes → get_or bytes 0 0 ≡ 36 → n ≡ hex_len (take (length bytes - 1) (drop 1 bytes)) → 0 < n → Number (take (n + 1) bytes) ≡ (part_at l (get_or bytes 0 0) (drop 1 bytes)).0
unfolding part_at
hex_part l bytes n lt h e pos =
    let e' = rw take_rest at e in
    let some : nat_lt 0 (hex_len (drop 1 bytes)) ≡ true = lt-ltb 0 (hex_len (drop 1 bytes)) (omega arith) in
    ap Number (take_first bytes n lt) ∙ rw (h, some, e') refl

-- ---- a line and its places

rest_after : (line : List ℕ) (at n : ℕ) → drop (at + n) line ≡ drop n (drop at line)
rest_after line at n = sym (drop-drop n at line)

pub begin_parts : (l : Language) (line left : List ℕ) (at n : ℕ) → left ≡ drop at line → n ≡ prefix_len is_blank left → parts l (drop (at + n) line) ≡ parts l (drop at line)
begin_parts l line left at n r e = rw (rest_after line at n, e, r) (parts_begin l (drop at line))

pub begin_stop : (line left : List ℕ) (at n : ℕ) → left ≡ drop at line → n ≡ prefix_len is_blank left → at + n < length line → is_blank (get_or (drop (at + n) line) 0 0) ≡ false
begin_stop line left at n r e lt =
    let same : drop (at + n) line ≡ drop (prefix_len is_blank left) left = rest_after line at n ∙ rw (e, r) refl in
    rw same (no_blank left (omega (arith, ap length same, length-drop (at + n) line)))

pub begin_blanks : (line left : List ℕ) (at n : ℕ) → left ≡ drop at line → n ≡ prefix_len is_blank left → AreBlanks line at (at + n)
begin_blanks line left at n r e = record { on = omega arith; blank = (let same : (at + n) - at ≡ n = omega arith in rw (same, ← r) (run_passes is_blank n left (omega (arith, e)))) }

pub ruleset begins = (begin_parts, begin_stop, begin_blanks)

-- the place of a part that begins at a place of a line
pub place_text : (line left : List ℕ) (from len : ℕ) (text : List ℕ) → left ≡ drop from line → text ≡ take len left → take ((from + len) - from) (drop from line) ≡ text
place_text line left from len text r e = let same : (from + len) - from ≡ len = omega arith in rw (same, e, r) refl

pub place_next : (l : Language) (line left : List ℕ) (from len : ℕ) (p : Part) → left ≡ drop from line → parts l left ≡ p ∷ parts l (drop len left) → parts l (drop from line) ≡ p ∷ parts l (drop (from + len) line)
place_next l line left from len p r h = rw (rest_after line from len, ← r) h

pub ruleset places = (place_text, place_next)

-- ---- the place of an operand

pub goes_nowhere : (p : PlacesView) → p.at ≤ length p.line → GoesOver p p
goes_nowhere p h = record { language = refl; line = refl; on = omega arith; within = h }

pub goes_further : (p q r : PlacesView) → GoesOver p q → GoesOver q r → GoesOver p r
goes_further p q r h g = record { language = g.language ∙ h.language; line = g.line ∙ h.line; on = omega (arith, h.on, g.on); within = rw (← h.line) g.within }

pub ruleset terms = (goes_nowhere, goes_further)
