-- Where a line may differ from what it was.
--
-- Both are read part by part. A part stays, byte for byte, with the blanks before it. Only of an operand of which a
-- group names a byte parts may go and others come, and a `.byte` may become `.lobytes` or `.hibytes`. Nothing in a
-- comment changes, but the blanks before it may.
use Rattle.std.specs.Prelude.{◌≡◌, ◌++◌, ℕ, ◌+◌, ◌-◌, Bool, true, false, List, [], ◌∷◌, codes, drop, length, take, ◌==◌, ◌&&◌, ◌||◌, if◌then◌else◌}
use Rattle.std.specs.List.{list_all, list_any, range_with_len}
use Rattle.text65.specs.Names.{is_blank}
use Rattle.stmt65.specs.Words.{Define, Mark, Number, Part, Text, Word, begins_with, is_mark, parts, part_text, same}
use Rattle.stmt65.specs.declared.language.Language.{Language}
use Rattle.name65.specs.declared.compared.Cursor.{Cursor}
use Rattle.name65.specs.declared.rewriting.Cut.{Cut}

-- What decides how lines change: their language, which addresses groups name, whether constant lines of unused names
-- are left out, and the address after the last line.
pub record Scope : Type 0 where
  pub language : Language
  pub named : ℕ → Bool
  pub used : Bool
  pub last : ℕ

-- a group names one of the addresses from `at` to before `end`
abbrev pub names_one : (ℕ → Bool) → ℕ → ℕ → Bool
names_one named at end = list_any named (range_with_len at (end - at))

-- a line goes on with blanks, the text of this part, and the rest
pub record GoesOn (language : Language) (part : Part) (blanks text rest : List ℕ) : Type 0 where
  pub are_blank : list_all is_blank blanks ≡ true
  pub is_text : text ≡ part_text part
  pub reads : parts language (blanks ++ (text ++ rest)) ≡ part ∷ parts language rest

-- ---- how far a line was read

-- After a comma the next operand gives bytes, and a string gives those between its quotes.
abbrev pub after_part : Part → Cursor → Cursor
after_part (Mark b) c = if b == 44 then record { stay = c.stay - 1; width = c.width; from = c.to; to = c.to + c.width } else record { stay = c.stay - 1; width = c.width; from = c.from; to = c.to }
after_part (Text t) c = record { stay = c.stay - 1; width = c.width; from = c.from; to = c.from + length t }
after_part _ c = record { stay = c.stay - 1; width = c.width; from = c.from; to = c.to }

-- a group names a byte of the operand that was come to
abbrev pub may_change : Scope → Cursor → Bool
may_change scope c = c.stay == 0 && names_one scope.named c.from c.to

-- the word that a part is
abbrev pub word_of : Part → List ℕ
word_of (Word w) = w
word_of _ = []

abbrev pub first_word : List Part → List ℕ
first_word [] = []
first_word (p ∷ ps) = word_of p

-- whether a label is the first part of a line
abbrev pub is_labelled : List Part → Bool
is_labelled ps = is_mark 58 (drop 1 ps)

-- how many parts stand before the operands: the operation, and before it a label and `:`
abbrev pub head_len : List Part → ℕ
head_len ps = if is_labelled ps then 3 else 1

abbrev pub operation_in : List Part → List ℕ
operation_in ps = first_word (if is_labelled ps then drop 2 ps else ps)

-- how many bytes an operand of a list has
abbrev pub width_of : List ℕ → ℕ
width_of word = if same word (codes ".byte") then 1 else (if same word (codes ".word") then 2 else 0)

-- The first operand of a list gives as many bytes, that of an instruction all bytes of the line, from `at` to before
-- `end`; that of another directive none, so none of its may change.
abbrev pub cursor_of : List Part → ℕ → ℕ → Cursor
cursor_of ps at end = record {
  stay = head_len ps;
  width = width_of (operation_in ps);
  from = at;
  to = if begins_with 46 (operation_in ps) then at + width_of (operation_in ps) else end;
}

-- so many parts stand before the operands of a line, and its operation is this word
pub record IsHead (ps : List Part) (len : ℕ) (word : List ℕ) : Type 0 where
  pub len_is : len ≡ head_len ps
  pub word_is : word ≡ operation_in ps

-- the value of a constant line, which groups name like a byte at this address
abbrev pub value_cursor : ℕ → Cursor
value_cursor n = record { stay = 1; width = 0; from = n; to = n + 1 }

-- ---- what may differ

-- a word, a number, an operator, or one of `<>()*`
abbrev pub is_of_operand : Part → Bool
is_of_operand (Word w) = true
is_of_operand (Number t) = true
is_of_operand (Text t) = false
is_of_operand Define = true
is_of_operand (Mark b) = b == 40 || b == 41 || b == 42 || b == 43 || b == 45 || b == 60 || b == 61 || b == 62

-- `.byte`, and a directive of halves
abbrev pub become_halves : List ℕ → List ℕ → Bool
become_halves old new = same old (codes ".byte") && (same new (codes ".lobytes") || same new (codes ".hibytes"))

-- The rest of a line from a place on, as it was and as it is.
pub data Renamed (scope : Scope) : Cursor → List ℕ → List ℕ → Type 0 where
  ends : {c : Cursor} (blanks others comment : List ℕ) → list_all is_blank blanks ≡ true → list_all is_blank others ≡ true → parts scope.language (blanks ++ comment) ≡ []
      → Renamed scope c (blanks ++ comment) (others ++ comment)
  stays : {c : Cursor} {old new : List ℕ} (part : Part) (blanks text : List ℕ) → GoesOn scope.language part blanks text old
      → Renamed scope (after_part part c) old new → Renamed scope c (blanks ++ (text ++ old)) (blanks ++ (text ++ new))
  halves : {c : Cursor} {old new : List ℕ} (part other : Part) (blanks was now : List ℕ) → c.stay ≡ 1 → become_halves was now ≡ true
      → GoesOn scope.language part blanks was old → GoesOn scope.language other blanks now new
      → Renamed scope (after_part part c) old new → Renamed scope c (blanks ++ (was ++ old)) (blanks ++ (now ++ new))
  goes : {c : Cursor} {old new : List ℕ} (part : Part) (blanks text : List ℕ) → may_change scope c ≡ true → is_of_operand part ≡ true
      → GoesOn scope.language part blanks text old → Renamed scope c old new → Renamed scope c (blanks ++ (text ++ old)) new
  comes : {c : Cursor} {old new : List ℕ} (part : Part) (blanks text : List ℕ) → may_change scope c ≡ true → is_of_operand part ≡ true
      → GoesOn scope.language part blanks text new → Renamed scope c old new → Renamed scope c old (blanks ++ (text ++ new))

-- bytes that are cut at two places
pub record IsCut (bytes : List ℕ) (from to : ℕ) (c : Cut) : Type 0 where
  pub whole : bytes ≡ c.before.now ++ (c.within.now ++ c.after.now)
  pub within : c.within.now ≡ take (to - from) (drop from bytes)
  pub after : c.after.now ≡ drop to bytes
