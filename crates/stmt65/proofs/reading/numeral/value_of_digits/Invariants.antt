use Rattle.std.proofs.Common.{◌≡◌, take, min}
use Rattle.std.specs.Str.Parse.{digits_value}
use Rattle.stmt65.proofs.reading.numeral.value_of_digits.Given as goal

abbrev pub invariant-digits : goal.invariant-digits
invariant-digits l = l.n ≡ min (digits_value l.radix (take l.d-index l.digits)) 18446744073709551615
