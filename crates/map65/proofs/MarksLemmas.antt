-- Marks of addresses, bit by bit.
use Rattle.std.proofs.Common.{◌≡◌, ◌≢◌, ◌∙◌, ℕ, zero, suc, ◌+◌, ◌*◌, ◌/◌, ◌%◌, ◌^◌, ◌<◌, ◌≤◌, ◌==◌, ◌&&◌, ◌||◌, Bool, true, false, not, List, length, get_or, set, replicate, refl, sym, ap, arith, if◌then◌else◌, inl, inr, w64}
use Rattle.std.specs.Prelude.{bit_and, bit_or}
use Rattle.std.specs.Int.{bit_at, bit_not}
use Rattle.std.proofs.lemmas.Bool.{cases_eq, cases_lt}
use Rattle.std.proofs.lemmas.Bool.Decides.{nat_tests}
use Rattle.std.proofs.lemmas.List.{get_or-replicate, get_or-set_other, get_or-set_same, get_or_past, length-replicate}
use Rattle.std.proofs.lemmas.Nat.Bits.{bit_at-zero, bit_at_clear_other, bit_at_clear_same, bit_at_set_other, bit_at_set_same, shr_and_one}
use Rattle.map65.specs.Words.{MarksView, is_marked}

-- ---- one flag

-- a word that holds 0 marks nothing
zero_word : (marks : MarksView) (a : ℕ) → get_or marks.words (a / 64) 0 ≡ 0 → is_marked marks a ≡ false
unfolding is_marked
zero_word marks a is = ap (λ word. bit_at word (a % 64) == 1) is ∙ ap (λ bit. bit == 1) (bit_at-zero (a % 64))

pub marked_past : (marks : MarksView) (a : ℕ) → length marks.words ≤ a / 64 → is_marked marks a ≡ false
marked_past marks a past = zero_word marks a (get_or_past marks.words (a / 64) 0 past)

pub blank_word : (n k : ℕ) → get_or {A = ℕ} (replicate n 0) k 0 ≡ 0
blank_word n k =
    elim (cases_lt k n) [
      | inl below ↦ get_or-replicate n k 0 0 below
      | inr past ↦ get_or_past (replicate n 0) k 0 (omega (arith, length-replicate {A = ℕ} n 0))
    ]

pub none_marked : (marks : MarksView) (n a : ℕ) → marks.words ≡ replicate n 0 → is_marked marks a ≡ false
none_marked marks n a is = zero_word marks a (ap (λ words. get_or words (a / 64) 0) is ∙ blank_word n (a / 64))

pub marked_test : (marks : MarksView) (a word : ℕ) → word ≡ get_or marks.words (a / 64) 0 → (bit_and (word / 2 ^ (a % 64)) 1 == 1) ≡ is_marked marks a
unfolding is_marked
marked_test marks a word is = rw (is, shr_and_one) refl

-- ---- one flag that changes

-- a word is written, in which one bit changes
record Writes (words : List ℕ) (i at word : ℕ) : Type 0 where
  place : i ≡ at / 64
  room : i < length words
  others : (k : ℕ) → k < 64 → k ≢ at % 64 → bit_at word k ≡ bit_at (get_or words i 0) k

here : (words : List ℕ) (i at word : ℕ) → Writes words i at word → is_marked (record { words = set words i word }) at ≡ (bit_at word (at % 64) == 1)
unfolding is_marked
here words i at word w = rw (← w.place, get_or-set_same words i word 0 w.room) refl

there : (words : List ℕ) (i at word a : ℕ) → Writes words i at word → a ≢ at → is_marked (record { words = set words i word }) a ≡ is_marked (record { words = words }) a
unfolding is_marked
there words i at word a w apart =
    elim (cases_eq (a / 64) i) [
      | inl same ↦ rw (same, get_or-set_same words i word 0 w.room, w.others (a % 64) (omega arith) (omega (arith, same, w.place, apart))) refl
      | inr other ↦ rw (get_or-set_other words i (a / 64) word 0 other) refl
    ]

pub marked_more : (words : List ℕ) (i at a word : ℕ) → i ≡ at / 64 → i < length words → word ≡ get_or words i 0
    → is_marked (record { words = set words i (bit_or word (1 * 2 ^ (at % 64) % 2 ^ 64)) }) a ≡ (is_marked (record { words = words }) a || at == a)
marked_more words i at a word place room was =
    let small : at % 64 < 64 = omega arith in
    let w : Writes words i at (bit_or word (1 * 2 ^ (at % 64) % 2 ^ 64)) = record { place = place; room = room; others = λ k _ apart. rw was (bit_at_set_other w64 (get_or words i 0) (at % 64) small k apart) } in
    elim (cases_eq a at) [
      | inl same ↦ let set_here = here words i at _ w ∙ ap (λ bit. bit == 1) (bit_at_set_same w64 word (at % 64) small) in grind (arith, nat_tests, set_here)
      | inr apart ↦ let kept = there words i at _ a w apart in grind (arith, nat_tests, kept)
    ]

pub marked_less : (words : List ℕ) (i at a word : ℕ) → i ≡ at / 64 → i < length words → word ≡ get_or words i 0
    → is_marked (record { words = set words i (bit_and word (bit_not w64 (1 * 2 ^ (at % 64) % 2 ^ 64))) }) a ≡ (is_marked (record { words = words }) a && not (at == a))
marked_less words i at a word place room was =
    let small : at % 64 < 64 = omega arith in
    let w : Writes words i at (bit_and word (bit_not w64 (1 * 2 ^ (at % 64) % 2 ^ 64))) = record { place = place; room = room; others = λ k within apart. rw was (bit_at_clear_other w64 (get_or words i 0) (at % 64) small k within apart) } in
    elim (cases_eq a at) [
      | inl same ↦ let cleared = here words i at _ w ∙ ap (λ bit. bit == 1) (bit_at_clear_same w64 word (at % 64) small) in grind (arith, nat_tests, cleared)
      | inr apart ↦ let kept = there words i at _ a w apart in grind (arith, nat_tests, kept)
    ]

-- ---- how many addresses are not marked

-- of the first n addresses, how many fail a test
unfoldable pub open_count : (ℕ → Bool) → ℕ → ℕ
open_count test zero = 0
open_count test (suc n) = (if test n then 0 else 1) + open_count test n

open_same : (p q : ℕ → Bool) (n : ℕ) → ((b : ℕ) → b < n → q b ≡ p b) → open_count q n ≡ open_count p n
unfolding open_count
open_same p q zero same = refl
open_same p q (suc n) same = rw (same n (omega arith), open_same p q n (λ b below. same b (omega arith))) refl

-- if one more address passes, one fewer fails
pub open_fewer : (p q : ℕ → Bool) (a n : ℕ) → p a ≡ false → a < n → ((b : ℕ) → q b ≡ (p b || a == b)) → open_count q n + 1 ≡ open_count p n
unfolding open_count
open_fewer p q a zero fails below more = absurd (omega arith)
open_fewer p q a (suc n) fails below more =
    elim (cases_eq a n) [
      | inl last ↦
          let passes : q n ≡ true = grind (arith, nat_tests, more n) in
          let failed : p n ≡ false = ap p (sym last) ∙ fails in
          let others = open_same p q n (λ b under. grind (arith, nat_tests, more b)) in
          rw (passes, failed) (omega (arith, others))
      | inr before ↦
          let same : q n ≡ p n = grind (arith, nat_tests, more n) in
          rw same (omega (arith, open_fewer p q a n fails (omega (arith, below, before)) more))
    ]
