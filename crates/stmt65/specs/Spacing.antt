-- How the parts of a line stand in it.
use Rattle.std.specs.Prelude.{◌≡◌, ◌⊎◌, ℕ, ◌<◌, ◌≤◌, Bool, true, ◌||◌, not, List, [], ◌∷◌, ◌++◌, length, ◌==◌}
use Rattle.std.specs.List.{list_all}
use Rattle.std.specs.Char.{is_ascii_digit, is_ascii_hexdigit}
use Rattle.text65.specs.Names.{is_blank, is_word_byte}
use Rattle.stmt65.specs.Signs.{quote, dollar, colon, semicolon, equals}
use Rattle.stmt65.specs.Parts.{Part, Word, Number, Text, Define, Mark}
use Rattle.stmt65.specs.Lexing.{is_word_start, is_text_byte}

-- a letter, `_` or `.`, then letters, digits and `_`
abbrev pub IsWord : List ℕ → Type 0
IsWord [] = ⊥
IsWord (b ∷ w) = (is_word_start b ≡ true) × (list_all is_word_byte w ≡ true)

-- one or more digits
abbrev pub IsDecimal : List ℕ → Type 0
IsDecimal text = (0 < length text) × (list_all is_ascii_digit text ≡ true)

-- `$` and one to eight hex digits
abbrev pub IsHex : List ℕ → Type 0
IsHex text = (digits : List ℕ) × (text ≡ dollar ∷ digits) × (0 < length digits) × (length digits ≤ 8) × (list_all is_ascii_hexdigit digits ≡ true)

-- a byte that stands for itself: no blank, no `;`, and it begins no word and no decimal number
abbrev pub is_alone : ℕ → Bool
is_alone b = not (is_blank b || (b == semicolon || (is_word_start b || is_ascii_digit b)))

-- the bytes that a part is written with
abbrev pub IsText : Part → List ℕ → Type 0
IsText (Word w) text = (text ≡ w) × IsWord w
IsText (Number t) text = (text ≡ t) × (IsDecimal t ⊎ IsHex t)
IsText (Text t) text = (text ≡ quote ∷ (t ++ quote ∷ [])) × (list_all is_text_byte t ≡ true)
IsText Define text = text ≡ colon ∷ equals ∷ []
IsText (Mark b) text = (text ≡ b ∷ []) × (is_alone b ≡ true)

-- nothing, or a `;` and what follows it
abbrev pub IsRemark : List ℕ → Type 0
IsRemark rest = (rest ≡ []) ⊎ ((remark : List ℕ) × (rest ≡ semicolon ∷ remark))

-- no part in front of bs is longer
abbrev pub IsLongest : ℕ → List ℕ → Type 0
IsLongest len bs = (q : Part) (text more : List ℕ) → bs ≡ text ++ more → IsText q text → length text ≤ len

-- blanks and a part, by turns, each part as long as it can be; blanks at the end, and perhaps a remark
abbrev pub IsSpacing : List Part → List ℕ → Type 0
IsSpacing [] line = (blanks rest : List ℕ) × (line ≡ blanks ++ rest) × (list_all is_blank blanks ≡ true) × IsRemark rest
IsSpacing (p ∷ ps) line = (blanks text rest : List ℕ) × (line ≡ blanks ++ (text ++ rest)) × (list_all is_blank blanks ≡ true) × IsText p text × IsLongest (length text) (text ++ rest) × IsSpacing ps rest
