-- The classes of bytes, by a table.
use Rattle.std.specs.Prelude.{◌≡◌, ◌==◌, ◌||◌, ℕ, Bool, get_or}
use Rattle.std.specs.Char.{is_digit}
use Rattle.info65.specs.Lexemes.{in_class}
use Rattle.info65.specs.Types.{CLASSES, Class}
use Rattle.info65.specs.declared.syntax.lexeme.Class.TheVariants as class

-- the bit of a class
abbrev pub bit_of : Class → ℕ
bit_of class.Word = 1
bit_of class.Decimal = 2
bit_of class.Hexadecimal = 4
bit_of class.Text = 8

-- the classes of a byte
unfoldable pub classes_of : ℕ → ℕ
classes_of b = get_or CLASSES b 0

-- a line feed, or what may begin a comment: `#` or `/`
abbrev pub begins_gap : ℕ → Bool
begins_gap b = b == 10 || (b == 35 || b == 47)

-- the bytes of this class are the digits of this radix
abbrev pub AreDigitsIn : Class → ℕ → Type 0
AreDigitsIn c radix = (b : ℕ) → in_class c b ≡ is_digit b radix
