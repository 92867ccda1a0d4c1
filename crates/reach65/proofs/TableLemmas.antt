-- Tables by which the texts after calls are found.
use Rattle.std.proofs.Common.{◌≡◌, ◌∙◌, ℕ, ◌+◌, ◌-◌, ◌<◌, ◌≤◌, ◌==◌, false, List, [], ◌∷◌, length, get_or, set, drop, refl, sym, ap, arith, if◌then◌else◌, inl, inr, Some, None}
use Rattle.std.specs.List.{list_any, slice_get}
use Rattle.std.proofs.lemmas.Bool.{cases_eq, cases_lt}
use Rattle.std.proofs.lemmas.Bool.Decides.{nat_tests}
use Rattle.std.proofs.lemmas.List.{drop_all, drop_more, get_or-set_other, get_or-set_same, get_or_past}
use Rattle.std.proofs.lemmas.Option.{get_or_from_slice_get, slice_get_within}
use Rattle.map65.specs.Words.{ImageView, byte_at, end_of}
use Rattle.reach65.specs.Words.{AreEnds, AreFirsts, Enters, HasText, Tag, coded, inline_of, is_inline, is_text, text_end, zero_end}

-- ---- groups

no_inline : (tags : List Tag) (a : ℕ) → list_any is_text tags ≡ false → inline_of tags a ≡ None
unfolding inline_of is_inline
no_inline [] a none = refl
no_inline (t ∷ tags) a none = grind (arith, (no_inline tags a))

-- where a group is found there is one
pub has_text : (tags : List Tag) (a : ℕ) (t : Tag) → inline_of tags a ≡ Some t → HasText tags
unfolding inline_of is_inline
has_text [] a t is = cc
has_text (u ∷ tags) a t is = grind (arith, (has_text tags a t))

-- without groups there is no table
pub firsts_none : (tags : List Tag) (firsts : List ℕ) → list_any is_text tags ≡ false → firsts ≡ [] → AreFirsts tags [] firsts
unfolding inline_of
firsts_none tags firsts none empty = record { found = λ a. rw (empty, no_inline tags a none) refl }

-- before the first group all numbers are 0
pub firsts_blank : (tags : List Tag) (firsts : List ℕ) → ((a : ℕ) → get_or firsts a 0 ≡ 0) → AreFirsts tags tags firsts
firsts_blank tags firsts blank = record { found = λ a. rw (blank a) refl }

-- one group more
pub firsts_more : (tags : List Tag) (k : ℕ) (t : Tag) (old new : List ℕ) → slice_get tags k ≡ Some t
    → Enters t (k + 1) old new → AreFirsts tags (drop k tags) old → AreFirsts tags (drop (k + 1) tags) new
unfolding inline_of
firsts_more tags k t old new is entered was =
    let parts : drop k tags ≡ t ∷ drop (k + 1) tags =
    drop_more tags k t (slice_get_within tags k t is) ∙ ap (λ u. u ∷ drop (k + 1) tags) (get_or_from_slice_get tags k t t is) in
    record {
      found = λ a.
          let next : inline_of (drop k tags) a ≡ (if is_inline a t then Some t else inline_of (drop (k + 1) tags) a) = rw parts refl in
          grind (arith, nat_tests, is, next, entered a, was.found a);
    }

pub inline_none : (tags : List Tag) (firsts : List ℕ) (a : ℕ) → AreFirsts tags [] firsts → get_or firsts a 0 ≡ 0 → inline_of tags a ≡ None
unfolding inline_of
inline_none tags firsts a are none = grind (arith, nat_tests, are.found a)

pub inline_some : (tags : List Tag) (firsts : List ℕ) (a : ℕ) → AreFirsts tags [] firsts → 0 < get_or firsts a 0 → inline_of tags a ≡ slice_get tags (get_or firsts a 0 - 1)
inline_some tags firsts a are some = grind (arith, nat_tests, are.found a)

-- ---- zero bytes

no_text_end : (image : ImageView) (a : ℕ) → image.start ≤ a → end_of image ≤ a → text_end image None a ≡ None
unfolding text_end zero_end
no_text_end image a low past = let none : drop (a - image.start) image.bytes ≡ [] = drop_all (a - image.start) image.bytes (omega arith) in rw none refl

-- the ends of texts are entered for the bytes from this one on, and the last that was entered is this one
pub record AreEntered (image : ImageView) (i end : ℕ) (ends : List ℕ) : Type 0 where
  pub found : AreEnds image (image.start + i) ends
  pub last : end ≡ coded (text_end image None (image.start + i))

-- after the image no text ends
pub ends_blank : (image : ImageView) (i : ℕ) (ends : List ℕ) → i ≡ length image.bytes → length ends ≡ length image.bytes → AreEntered image i 0 ends
ends_blank image i ends all count =
    let none : (a : ℕ) → image.start + i ≤ a → text_end image None a ≡ None = λ a past. no_text_end image a (omega (arith, past)) (omega (arith, all, past)) in
    record {
      found = record {
        found = λ a past.
            let blank : get_or ends (a - image.start) 0 ≡ 0 = get_or_past ends (a - image.start) 0 (omega (arith, all, count, past)) in
            blank ∙ ap coded (sym (none a past));
      };
      last = ap coded (sym (none (image.start + i) (omega arith)));
    }

-- the end of a text by its first byte
text_end_step : (image : ImageView) (a : ℕ) → image.start ≤ a → a < end_of image
    → text_end image None a ≡ (if byte_at image a == 0 then Some (a + 1) else text_end image None (a + 1))
unfolding text_end zero_end
text_end_step image a low high =
    let next : a + 1 - image.start ≡ a - image.start + 1 = omega arith in
    let room : a - image.start < length image.bytes = omega arith in
    rw (next, drop_more image.bytes (a - image.start) 0 room) refl

-- one byte before
pub ends_more : (image : ImageView) (i k end last : ℕ) (old : List ℕ) → k ≡ i + 1 → k ≤ length image.bytes → length old ≡ length image.bytes
    → end ≡ (if get_or image.bytes i 0 == 0 then image.start + i + 2 else last) → AreEntered image k last old → AreEntered image i end (set old i end)
ends_more image i k end last old more room count is was =
    let at : image.start + i - image.start ≡ i = omega arith in
    let step = text_end_step image (image.start + i) (omega arith) (omega (arith, more, room)) in
    let after : last ≡ coded (text_end image None (image.start + i + 1)) = was.last ∙ ap (λ a. coded (text_end image None a)) (omega (arith, more)) in
    let here : end ≡ coded (text_end image None (image.start + i)) = grind (arith, nat_tests, step, is, after, at) in
    let same : (a : ℕ) → a ≡ image.start + i → get_or (set old i end) (a - image.start) 0 ≡ coded (text_end image None a) =
    λ a same. rw (same, at, get_or-set_same old i end 0 (omega (arith, count, more, room))) here in
    let other : (a : ℕ) → (a ≡ image.start + i → ⊥) → image.start + i ≤ a → get_or (set old i end) (a - image.start) 0 ≡ coded (text_end image None a) =
    λ a other low. get_or-set_other old i (a - image.start) end 0 (λ at. other (omega (arith, at, low))) ∙ was.found.found a (omega (arith, more, other, low)) in
    record {
      found = record { found = λ a low. elim (cases_eq a (image.start + i)) [ inl is ↦ same a is | inr apart ↦ other a apart low ] };
      last = here;
    }

-- a text that ends begins in the image
pub text_inside : (image : ImageView) (a e : ℕ) → image.start ≤ a → text_end image None a ≡ Some e → a < end_of image
text_inside image a e low is =
    elim (cases_lt a (end_of image)) [
      | inl below ↦ below
      | inr past ↦ let none = no_text_end image a low past in cc
    ]
