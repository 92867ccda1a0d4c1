-- Numbers by their digits.
use Rattle.std.specs.Prelude.{◌==◌, ℕ, List, Option, Some, None, length, min, if◌then◌else◌}
use Rattle.std.specs.Str.Parse.{digits_value}
use Rattle.info65.specs.Lexemes.{are_digits}

-- the number that digits write, or 2^32 if it is greater; none without a digit, or
-- where a byte is no digit of the radix
unfoldable pub number_of_digits : ℕ → List ℕ → Option ℕ
number_of_digits radix ds =
    if length ds == 0 then None
    else (if are_digits radix ds then Some (min (digits_value radix ds) 0x1_0000_0000) else None)
