-- The names that a text defines, and the value and size of an expression.
--
-- A definition is a name, a whole number, and whether a line `name := number` gives it; of two definitions of a name
-- the first counts. The value of an expression is a whole number, or none if it is below 0 or a name has no definition.
-- A difference has a value if both names are addresses and the first is not below the second; so has a name from which
-- a number is subtracted, if it is an address and not below the number. An operand has zero-page size if its value is
-- below $100, no `a:` stands before it, and each name in it is defined as `name := number` on an earlier line.
use Rattle.std.specs.Prelude.{ℕ, ◌+◌, ◌-◌, Bool, true, false, ◌&&◌, List, [], ◌∷◌, codes, nat_le, nat_lt, ◌==◌, if◌then◌else◌, Option, Some, None, is_some, option_and_then}
use Rattle.std.specs.Str.{bytes_eq}
use Rattle.stmt65.specs.Types.{Minus, Zero}
use Rattle.stmt65.specs.declared.source_line.Minus.TheVariants.{One}
use Rattle.stmt65.specs.SourceLine.{Value, NumberValue, NameValue, LessValue, DifferenceValue}

-- a name, its value, and whether a line `name := number` gives it
pub record Definition : Type 0 where
  pub name : List ℕ
  pub value : ℕ
  pub constant : Bool

-- the name of the address of a line
abbrev pub here : List ℕ
here = codes "*"

-- the definitions, after that of `*` if it has an address
abbrev pub with_here : Option ℕ → List Definition → List Definition
with_here None all = all
with_here (Some at) all = record { name = here; value = at; constant = false } ∷ all

-- of two definitions of a name the first counts
unfoldable pub find_name : List ℕ → List Definition → Option Definition
find_name name [] = None
find_name name (d ∷ ds) = if bytes_eq d.name name then Some d else find_name name ds

-- the difference, or none if it is below 0
abbrev pub lowered : Minus → ℕ → Option ℕ
lowered Zero v = Some v
lowered One v = if v == 0 then None else Some (v - 1)

abbrev pub below : ℕ → Option ℕ → Option ℕ
below limit None = None
below limit (Some n) = if nat_lt n limit then Some n else None

-- the address that a name has, if there is one
abbrev pub address_of : Option Definition → Option ℕ
address_of None = None
address_of (Some d) = below 65536 (Some d.value)

-- how far an address is past another number, or none if it is before it
abbrev pub apart : Option ℕ → Option ℕ → Option ℕ
apart (Some a) (Some b) = if nat_le b a then Some (a - b) else None
apart _ _ = None

-- the value of an expression; none if it is below 0, a name is undefined, or a name that
-- takes part in a subtraction has no address
unfoldable pub value_in : List Definition → Value → Option ℕ
value_in all (NumberValue n) = Some n
value_in all (NameValue w n minus) = option_and_then (λ d. lowered minus (d.value + n)) (find_name w all)
value_in all (LessValue w n) = apart (address_of (find_name w all)) (Some n)
value_in all (DifferenceValue w v) = apart (address_of (find_name w all)) (address_of (find_name v all))

-- whether each name in the expression has a definition
unfoldable pub is_known : List Definition → Value → Bool
is_known all (NumberValue n) = true
is_known all (NameValue w n minus) = is_some (find_name w all)
is_known all (LessValue w n) = is_some (find_name w all)
is_known all (DifferenceValue w v) = is_some (find_name w all) && is_some (find_name v all)

-- the value if it is from 0 to $FFFF
unfoldable pub word_in : List Definition → Value → Option ℕ
word_in all v = below 65536 (value_in all v)

-- the value if it is from 0 to $FF
abbrev pub byte_in : List Definition → Value → Option ℕ
byte_in all v = below 256 (word_in all v)

-- below $100; so is a value below 0
abbrev pub is_small : Option ℕ → Bool
is_small None = true
is_small (Some v) = nat_lt v 256

abbrev pub is_constant : Option Definition → Bool
is_constant None = false
is_constant (Some d) = d.constant

-- zero-page size, by the lines above: the value is below $100, and a name has its first definition as
-- `name := number` there; a difference has none
unfoldable pub has_zero_page_size : List Definition → Value → Bool
has_zero_page_size above (NumberValue n) = nat_lt n 256
has_zero_page_size above (DifferenceValue w v) = false
has_zero_page_size above (NameValue w n minus) = is_constant (find_name w above) && is_small (value_in above (NameValue w n minus))
has_zero_page_size above (LessValue w n) = is_constant (find_name w above) && is_small (value_in above (LessValue w n))
