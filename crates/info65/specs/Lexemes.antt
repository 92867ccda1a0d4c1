-- What a token is, from its first byte on.
use Rattle.std.specs.Prelude.{◌==◌, ◌+◌, ◌-◌, ◌&&◌, ◌||◌, ℕ, Bool, not, List, Option, Some, None, Result, Ok, Err, length, take, drop, nat_le, nat_lt, slice_index, if◌then◌else◌}
use Rattle.std.specs.List.{list_all, prefix_len}
use Rattle.std.specs.Char.{is_ascii_alphabetic, is_ascii_digit, is_ascii_hexdigit, is_digit}
use Rattle.std.specs.Str.Parse.{digits_value}
use Rattle.text65.specs.Names.{is_word_byte}
use Rattle.info65.specs.Faults.{fault}
use Rattle.info65.specs.Types.{BadByte, BadNumber, Class, InfoFault, OpenString}
use Rattle.info65.specs.declared.syntax.lexeme.Class.TheVariants as class

-- what a token is, with its value
pub data KindView : Type 0 where
  word opening_brace closing_brace semicolon : KindView
  number : ℕ → KindView
  string : List ℕ → KindView
  character : ℕ → KindView

-- a token at the front of some bytes: what it is, and how many bytes it takes after its first
pub record LexemeView : Type 0 where
  pub kind : KindView
  pub more : ℕ

-- bytes that run on within a token: in a word letters, digits and `_`; in a string TAB, $20 to $7E
-- without `"`, and $80 to $FF
unfoldable pub in_class : Class → ℕ → Bool
in_class class.Word b = is_word_byte b
in_class class.Decimal b = is_ascii_digit b
in_class class.Hexadecimal b = is_ascii_hexdigit b
in_class class.Text b = b == 9 || (nat_le 0x20 b && nat_lt b 0x7F && not (b == 34)) || nat_le 0x80 b

-- a letter or `_`
abbrev pub starts_word : ℕ → Bool
starts_word b = is_ascii_alphabetic b || b == 95

-- a brace or `;`
abbrev pub mark : KindView → LexemeView
mark kind = record { kind = kind; more = 0 }

-- a word goes as far as letters, digits and `_` do
unfoldable pub word_at : List ℕ → LexemeView
word_at rest = record { kind = word; more = prefix_len (in_class class.Word) rest }

abbrev pub are_digits : ℕ → List ℕ → Bool
are_digits radix ds = list_all (λ d. is_digit d radix) ds

-- the number that digits write, where there is one and it is at most 2^32 - 1
unfoldable pub number_in : ℕ → List ℕ → Option ℕ
number_in radix ds =
    if length ds == 0 then None
    else (if are_digits radix ds then (if nat_le (digits_value radix ds) 0xFFFF_FFFF then Some (digits_value radix ds) else None)
    else None)

abbrev number_of : ℕ → ℕ → Option ℕ → Result LexemeView InfoFault
number_of line more None = Err (fault line BadNumber)
number_of line more (Some value) = Ok (record { kind = number value; more = more })

-- a number, by its digits and by how many bytes stand before them: no letter and no `_` follows
unfoldable pub number_at : ℕ → Class → ℕ → ℕ → List ℕ → Result LexemeView InfoFault
number_at line class radix sign bytes =
    let n = prefix_len (in_class class) bytes in
    if starts_word (slice_index bytes n) then Err (fault line BadNumber)
    else number_of line (sign + n - 1) (number_in radix (take n bytes))

-- a string up to its closing quote: the first byte that can't stand in it decides
unfoldable pub string_at : ℕ → List ℕ → Result LexemeView InfoFault
string_at line rest =
    let n = prefix_len (in_class class.Text) rest in
    if n == length rest then Err (fault line OpenString)
    else (if slice_index rest n == 34 then Ok (record { kind = string (take n rest); more = n + 1 })
    else (if slice_index rest n == 13 || slice_index rest n == 10 then Err (fault line OpenString)
    else Err (fault line BadByte)))

-- one byte $20 to $7E, and an apostrophe after it
unfoldable pub character_at : ℕ → List ℕ → Result LexemeView InfoFault
character_at line rest =
    if nat_le 2 (length rest) && (nat_le 0x20 (slice_index rest 0) && (nat_le (slice_index rest 0) 0x7E && slice_index rest 1 == 39))
    then Ok (record { kind = character (slice_index rest 0); more = 2 })
    else Err (fault line BadByte)

-- the token at the front of bytes on a line, by its first byte: `$` is 36, `"` 34, `'` 39, `{` 123, `}` 125, `;` 59
unfoldable pub lexeme_at : ℕ → List ℕ → Result LexemeView InfoFault
lexeme_at line bytes =
    let first = slice_index bytes 0 in
    let rest = drop 1 bytes in
    if starts_word first then Ok (word_at rest)
    else (if is_ascii_digit first then number_at line class.Decimal 10 0 bytes
    else (if first == 36 then number_at line class.Hexadecimal 16 1 rest
    else (if first == 34 then string_at line rest
    else (if first == 39 then character_at line rest
    else (if first == 123 then Ok (mark opening_brace)
    else (if first == 125 then Ok (mark closing_brace)
    else (if first == 59 then Ok (mark semicolon)
    else Err (fault line BadByte))))))))
