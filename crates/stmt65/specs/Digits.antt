-- Numbers as text.
use Rattle.std.specs.Prelude.{ℕ, ◌/◌, ◌%◌, Bool, List, [], ◌∷◌, decimal, nat_lt, if◌then◌else◌}
use Rattle.text65.specs.Digits.{digits4, hex_digit}

-- `hh`, the two low digits
abbrev pub digits2 : ℕ → List ℕ
digits2 n = hex_digit (n / 16 % 16) ∷ hex_digit (n % 16) ∷ []

-- `$hh`
abbrev pub hex2 : ℕ → List ℕ
hex2 n = 36 ∷ digits2 n

-- `$hhhh`
abbrev pub hex4 : ℕ → List ℕ
hex4 n = 36 ∷ digits4 n

-- what is added to a name: in decimal; or, in hex digits, two below $100 and else four
abbrev pub offset_text : Bool → ℕ → List ℕ
offset_text hexoffs n = if hexoffs then (if nat_lt n 256 then hex2 n else hex4 n) else decimal n
