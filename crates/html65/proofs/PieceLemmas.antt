-- The pieces of a page, step by step.
use Rattle.std.proofs.Common.{◌≡◌, ◌≢◌, ℕ, zero, suc, true, ◌+◌, ◌-◌, ◌<◌, List, [], ◌∷◌, length, take, drop, get_or, refl, ap, arith, sym, ◌∙◌, cond, map, ◌≤◌, Bool, false, min}
use Rattle.std.specs.Prelude.{◌==◌, ◌||◌, not}
use Rattle.std.specs.List.{prefix_len}
use Rattle.std.proofs.lemmas.Bool.{ne_eqb}
use Rattle.std.proofs.Math.Bool.{or_self}
use Rattle.std.proofs.lemmas.List.Sums.{prefix_len-le-length}
use Rattle.std.proofs.lemmas.List.Folds.{prefix_len-append}
use Rattle.std.proofs.lemmas.Simd.{chunk-drop, leading_from_mask_l, length-chunk, trailing_mask_l}
use lib.Lanes.{chunk, mask_l}
use lib.Count.{count_trailing_zeros}
use Rattle.std.proofs.lemmas.List.{take_rest, length-drop}
use Rattle.html65.specs.Pieces.{Piece, Tag, Text, entity_at, is_neither, is_other, is_text, piece_at, pieces, pieces_after}

pub pieces_after-drop : (skip : ℕ) (bs : List ℕ) → pieces_after skip bs ≡ pieces (drop skip bs)
unfolding pieces_after
pieces_after-drop zero bs = refl
pieces_after-drop (suc skip) [] = refl
pieces_after-drop (suc skip) (b ∷ bs) = pieces_after-drop skip bs

-- the first piece of a slice, and what is left

pub first_is_none : (page : List ℕ) → length page ≡ 0 → pieces page ≡ []
unfolding pieces_after
first_is_none [] h = refl
first_is_none (b ∷ bs) h = absurd (omega arith)

-- a piece of a length, and the pieces after it
stepped : (b : ℕ) (bs : List ℕ) (p : Piece) (len : ℕ) → piece_at b bs ≡ (p, len) → 0 < len → pieces (b ∷ bs) ≡ p ∷ pieces (drop len (b ∷ bs))
unfolding pieces_after
stepped b bs p zero is some = absurd (omega arith)
stepped b bs p (suc len) is some =
    let less : suc len - 1 ≡ len = omega arith in
    rw (is, less) (ap (λ (ps : List Piece). p ∷ ps) (pieces_after-drop len bs))

shorter : (b : ℕ) (bs : List ℕ) (len : ℕ) → 0 < len → length (drop len (b ∷ bs)) < length (b ∷ bs)
shorter b bs len some = omega (arith, length-drop len (b ∷ bs))

pub first_is_tag : (page rest : List ℕ) (len : ℕ) → 0 < length page → get_or page 0 0 ≡ 60 → len ≡ prefix_len (is_other 62) (take (length page - 1) (drop 1 page)) → rest ≡ drop (len + 2) page
    → (pieces page ≡ Tag (take (len + 1 - 1) (drop 1 page)) ∷ pieces rest) × (length rest < length page)
unfolding piece_at
first_is_tag [] rest len some is e f = absurd (omega arith)
first_is_tag (b ∷ bs) rest len some is e f =
    let e' = rw take_rest at e in
    let less : len + 1 - 1 ≡ len = omega arith in
    let same : piece_at b bs ≡ (Tag (take len bs), len + 2) = rw (is, e') refl in
    rw (f, less) (stepped b bs _ _ same (omega arith), shorter b bs (len + 2) (omega arith))

pub first_is_entity : (page rest text : List ℕ) (len : ℕ) → 0 < length page → get_or page 0 0 ≢ 60 → get_or page 0 0 ≡ 38
    → text ≡ (entity_at page).0 → len ≡ (entity_at page).1 → 0 < len → rest ≡ drop len page
    → (pieces page ≡ Text text ∷ pieces rest) × (length rest < length page)
unfolding piece_at
first_is_entity [] rest text len some differs is e g lt f = absurd (omega arith)
first_is_entity (b ∷ bs) rest text len some differs is e g lt f =
    let not_tag = ne_eqb b 60 differs in
    let is_entity : (b == 38) ≡ true = rw is refl in
    let same : piece_at b bs ≡ (Text text, len) = rw (e, g, not_tag, is_entity) refl in
    rw f (stepped b bs _ _ same lt, shorter b bs len lt)

pub first_is_text : (page : List ℕ) (len : ℕ) → 0 < length page → get_or page 0 0 ≢ 60 → get_or page 0 0 ≢ 38 → len ≡ prefix_len is_text page
    → (pieces page ≡ Text (take len page) ∷ pieces (take (length page - len) (drop len page))) × (length (take (length page - len) (drop len page)) < length page)
unfolding piece_at
first_is_text [] len some differs other e = absurd (omega arith)
first_is_text (b ∷ bs) len some differs other e =
    let not_tag = ne_eqb b 60 differs in
    let not_entity = ne_eqb b 38 other in
    let one : prefix_len is_text (b ∷ bs) ≡ 1 + prefix_len is_text bs = rw (not_tag, not_entity) refl in
    let lt : 0 < len = rw (e, one) (omega arith) in
    let same : piece_at b bs ≡ (Text (take len (b ∷ bs)), len) = rw (e, not_tag, not_entity) refl in
    rw take_rest (stepped b bs _ _ same lt, shorter b bs len lt)

pub ruleset first_pieces = (first_is_none, first_is_tag, first_is_entity, first_is_text)

-- ---- a block of bytes, and those after it

pub marked : (byte : ℕ) (block : List ℕ) (m : ℕ) → length block ≡ 32 → m ≡ mask_l (map (λ b. b == byte) block) → min 32 (count_trailing_zeros 64 m) ≡ prefix_len (is_other byte) block
unfolding count_trailing_zeros
marked byte block zero long is = sym (leading_from_mask_l (λ b. b == byte) block (sym is) ∙ long)
marked byte block (suc m) long is =
    let first = trailing_mask_l (λ b. b == byte) 64 block (omega arith) (omega (arith, is)) in
    omega (arith, ap (count_trailing_zeros 64) is, first, prefix_len-le-length (is_other byte) block)

either_of : (x y : Bool) (m n : ℕ) → min (cond (not x) (1 + m) 0) (cond (not y) (1 + n) 0) ≡ cond (not (x || y)) (1 + min m n) 0
either_of true y m n = omega arith
either_of false true m n = omega arith
either_of false false m n = omega arith

before_either : (one other : ℕ) (bs : List ℕ) → min (prefix_len (is_other one) bs) (prefix_len (is_other other) bs) ≡ prefix_len (is_neither one other) bs
before_either one other [] = refl
before_either one other (b ∷ bs) = either_of (b == one) (b == other) _ _ ∙ rw (before_either one other bs) refl

pub in_block : (one other : ℕ) (bs : List ℕ) (k n : ℕ) → 32 ≤ length bs → min 32 k ≡ prefix_len (is_other one) (chunk 0 32 bs) → min 32 n ≡ prefix_len (is_other other) (chunk 0 32 bs)
    → min k n < 32 → min k n ≡ prefix_len (is_neither one other) bs
in_block one other bs k n room first second lt =
    let q = is_neither one other in
    let before : min k n ≡ prefix_len q (chunk 0 32 bs) = omega (arith, first, second, before_either one other (chunk 0 32 bs)) in
    let stops = ne_eqb (prefix_len q (chunk 0 32 bs)) (length (chunk 0 32 bs)) (λ same. omega (arith, before, length-chunk 0 32 bs room)) in
    before ∙ sym (ap (prefix_len q) (chunk-drop 0 32 bs) ∙ prefix_len-append q (chunk 0 32 bs) (drop 32 bs) ∙ rw stops refl)

pub one_of_two : (byte : ℕ) (bs : List ℕ) → prefix_len (is_neither byte byte) bs ≡ prefix_len (is_other byte) bs
one_of_two byte [] = refl
one_of_two byte (b ∷ bs) = rw (or_self (b == byte), one_of_two byte bs) refl
