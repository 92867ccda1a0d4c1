-- A text whose last line ends says the same with comments after it.
use Rattle.std.proofs.Common.{◌≡◌, ◌==◌, ◌+◌, ◌/◌, ◌%◌, ◌≤◌, ℕ, Bool, true, false, List, [], ◌∷◌, ◌++◌, append_assoc, arith, length, refl, rules, subst, sym}
use Rattle.std.specs.Prelude.{Ok, IsOk, codes, not}
use Rattle.std.specs.List.{list_all}
use Rattle.std.proofs.lemmas.Bool.Decides.{nat_tests}
use Rattle.text65.specs.Digits.{hex_digit}
use Rattle.info65.specs.Words.{Accepts, AcceptsFiles, InfoView, OptionsView, Stream, TokenView, information, tokens_after, tokens_of}
use Rattle.info65.proofs.Public.{IsKept, alike}
use Rattle.trace65.specs.Unshown.{unshown_item}
use Rattle.trace65.specs.Words.{unshown_items, unshown_lines}

by_test : {P : Type 0} (b : Bool) → (b ≡ true → P) → (b ≡ false → P) → P
by_test true f g = f refl
by_test false f g = g refl

-- the same tokens, and no fault if there was none
record AreAlike (a b : Stream) : Type 0 where
  tokens : a.tokens ≡ b.tokens
  whole : IsOk a.ending → IsOk b.ending

-- no token and no fault, on whatever line it begins
record IsSilent (c : List ℕ) : Type 0 where
  tokens : (line : ℕ) → (tokens_of line c).tokens ≡ []
  whole : (line : ℕ) → IsOk (tokens_of line c).ending

are_kept : IsKept AreAlike
are_kept = record { refuses = λ e. record { tokens = refl; whole = λ ok. ok }; goes = λ t a b same. record { tokens = rw same.tokens refl; whole = same.whole } }

silent_alike : (c : List ℕ) → IsSilent c → (line : ℕ) → AreAlike (tokens_of line []) (tokens_of line c)
unfolding tokens_after
silent_alike c silent line = record { tokens = sym (silent.tokens line); whole = λ ok. silent.whole line }

-- no line feed stands there
abbrev has_no_feed : List ℕ → Bool
has_no_feed bs = list_all (λ b. not (b == 10)) bs

-- a comment goes on over what has no line feed
goes_on : (bs rest : List ℕ) (line : ℕ) → has_no_feed bs ≡ true → tokens_after 0 true line (bs ++ rest) ≡ tokens_after 0 true line rest
unfolding tokens_after
goes_on [] rest line none = refl
goes_on (b ∷ bs) rest line none =
    by_test (b == 10)
    (λ feed. let no : false ≡ true = rw feed at none in absurd cc)
    (λ other. rw other (goes_on bs rest line (rw other at none)))

-- a line that is a comment is silent
comment_silent : (bs : List ℕ) → has_no_feed bs ≡ true → IsSilent (35 ∷ (bs ++ 10 ∷ []))
unfolding tokens_after
comment_silent bs none = record {
  tokens = λ line. rw (goes_on bs (10 ∷ []) line none) refl;
  whole = λ line. rw (goes_on bs (10 ∷ []) line none) (search rules);
}

none_silent : IsSilent []
unfolding tokens_after
none_silent = record { tokens = λ line. refl; whole = λ line. (search rules) }

-- a text whose last line ends says the same with lines that are silent behind it
says_still : AcceptsFiles → (o : OptionsView) (xs c : List ℕ) (info : InfoView) → IsSilent c → length ((xs ++ 10 ∷ []) ++ c) ≤ 1_048_576
    → information o (xs ++ 10 ∷ []) ≡ Ok info → information o ((xs ++ 10 ∷ []) ++ c) ≡ Ok info
says_still accepts_files o xs c info silent small accepted =
    let here = (accepts_files o (xs ++ 10 ∷ []) info).0 accepted in
    let same = alike AreAlike are_kept [] c (silent_alike c silent) 0 false 1 xs (omega arith) in
    let apart : (xs ++ 10 ∷ []) ++ c ≡ xs ++ 10 ∷ c = append_assoc xs (10 ∷ []) c in
    let P : List TokenView → Type 0 = λ ts. Accepts o ts here.groups in
    rw apart ((accepts_files o (xs ++ 10 ∷ c) info).1 (record {
      small = rw apart at small;
      whole = same.whole here.whole;
      groups = here.groups;
      accepts = subst P same.tokens here.accepts;
      says = here.says;
    }))

-- no digit is a line feed, and so the comment has none but its last byte
digit_is_no_feed : (d : ℕ) → (hex_digit d == 10) ≡ false
digit_is_no_feed d = grind (arith, nat_tests)

items_have_no_feed : (addresses : List ℕ) → has_no_feed (unshown_items addresses) ≡ true
unfolding unshown_item
items_have_no_feed [] = refl
items_have_no_feed (a ∷ rest) =
    rw (digit_is_no_feed (a / 4096 % 16), digit_is_no_feed (a / 256 % 16), digit_is_no_feed (a / 16 % 16), digit_is_no_feed (a % 16)) (items_have_no_feed rest)

lines_silent : (addresses : List ℕ) → IsSilent (unshown_lines addresses)
lines_silent addresses =
    by_test (length addresses == 0)
    (λ none. rw none none_silent)
    (λ some. rw some (comment_silent (codes " no item of its own:" ++ unshown_items addresses) (items_have_no_feed addresses)))

-- A text says the same with the comment behind its last line.
pub says_with_comment : AcceptsFiles → (o : OptionsView) (xs old new addresses : List ℕ) (info : InfoView) → old ≡ xs ++ 10 ∷ [] → new ≡ old ++ unshown_lines addresses
    → length new ≤ 1_048_576 → information o old ≡ Ok info → information o new ≡ Ok info
says_with_comment law o xs old new addresses info ends more small accepted =
    let is : new ≡ (xs ++ 10 ∷ []) ++ unshown_lines addresses = rw ends at more in
    rw is (says_still law o xs (unshown_lines addresses) info (lines_silent addresses) (rw is at small) (rw ends at accepted))
