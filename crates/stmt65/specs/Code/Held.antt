-- Numbers as the code holds them, in 64 bits.
use Rattle.std.specs.Prelude.{ℕ, Option, min}
use Rattle.std.specs.Option.{option_map}

-- 2^64 - 1 in place of every greater number
abbrev pub held : ℕ → ℕ
held n = min n 18446744073709551615

-- 2^32 in place of every greater number: no test of a value tells those apart
abbrev pub capped : Option ℕ → Option ℕ
capped value = option_map (min 4294967296) value
