-- Numbers as they are written on the command line.
--
-- After `$`, `0x` or `0X` a number is hexadecimal, after `0` octal, else decimal. Without a digit, or with any other
-- byte, it is malformed, even if it is huge; outside its limits it is out of range.
use Rattle.std.specs.Prelude.{ℕ, List, Result, Ok, Err, ◌||◌, drop, codes, nat_eq, nat_le, length, ◌==◌, if◌then◌else◌}
use Rattle.std.specs.List.{starts_with}
use Rattle.std.specs.Str.Parse.{digits_value}
use Rattle.info65.specs.Words.{are_digits}
use Rattle.usage65.specs.declared.fault.UsageFault.{UsageFault}
use Rattle.usage65.specs.declared.fault.UsageFault.TheVariants.{BadNumber, OutOfRange}

-- the number that the digits write, at most `most`; no digit, or any other byte, is a bad number
unfoldable pub number_in : ℕ → ℕ → List ℕ → Result ℕ UsageFault
number_in radix most ds =
    if length ds == 0 then Err BadNumber
    else (if are_digits radix ds then (if nat_le (digits_value radix ds) most then Ok (digits_value radix ds) else Err OutOfRange)
    else Err BadNumber)

-- hexadecimal after `$`, `0x` or `0X`, octal after `0`, else decimal; at most `most`
unfoldable pub numeral_in : ℕ → List ℕ → Result ℕ UsageFault
numeral_in most text =
    if starts_with nat_eq text (codes "$") then number_in 16 most (drop 1 text)
    else (if starts_with nat_eq text (codes "0x") || starts_with nat_eq text (codes "0X") then number_in 16 most (drop 2 text)
    else (if starts_with nat_eq text (codes "0") then number_in 8 most text
    else number_in 10 most text))

abbrev pub address_in : List ℕ → Result ℕ UsageFault
address_in text = numeral_in 0xFFFF text

abbrev pub byte_in : List ℕ → Result ℕ UsageFault
byte_in text = numeral_in 0xFF text

-- a number that is too small is out of range
abbrev pub at_least : ℕ → Result ℕ UsageFault → Result ℕ UsageFault
at_least least (Ok n) = if nat_le least n then Ok n else Err OutOfRange
at_least least (Err e) = Err e

-- the number from `least` to `most` that decimal digits write
unfoldable pub decimal_in : ℕ → ℕ → List ℕ → Result ℕ UsageFault
decimal_in least most text = at_least least (number_in 10 most text)
