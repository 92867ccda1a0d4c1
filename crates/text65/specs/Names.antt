-- Blanks, the form of a name, and the words that no name may be.
--
-- A blank is a space or a TAB. The form of a name is a letter or `_`, then letters, digits and `_`, at most 80 bytes.
-- Reserved are the mnemonics of the three CPUs and the registers A, F, S, X, Y and Z, in any letter case.
use Rattle.std.specs.Prelude.{ℕ, Bool, false, ◌&&◌, ◌||◌, List, [], ◌∷◌, length, codes, nat_lt, ◌==◌, is_some}
use Rattle.std.specs.List.{list_any, list_all}
use Rattle.std.specs.Char.{is_ascii_alphabetic, is_ascii_alphanumeric}
use Rattle.std.specs.Str.{str_eq_ignore_ascii_case}
use Rattle.isa65.specs.Words.{mnemonic_named}

-- a space or a TAB
abbrev pub is_blank : ℕ → Bool
is_blank b = b == 32 || b == 9

-- a letter, a digit or `_` (95)
abbrev pub is_word_byte : ℕ → Bool
is_word_byte b = is_ascii_alphanumeric b || b == 95

-- a letter or `_`, then letters, digits and `_`; 80 bytes at most
unfoldable pub has_name_form : List ℕ → Bool
has_name_form [] = false
has_name_form (b ∷ bs) = (is_ascii_alphabetic b || b == 95) && list_all is_word_byte bs && nat_lt (length bs) 80

-- the letters that ca65 takes for a register
abbrev pub registers : List (List ℕ)
registers = codes "A" ∷ codes "F" ∷ codes "S" ∷ codes "X" ∷ codes "Y" ∷ codes "Z" ∷ []

-- a register, or a mnemonic of the 6502, the 65SC02 or the 65C02, in any letter case
unfoldable pub is_reserved_word : List ℕ → Bool
is_reserved_word text = list_any (str_eq_ignore_ascii_case text) registers || is_some (mnemonic_named text)
