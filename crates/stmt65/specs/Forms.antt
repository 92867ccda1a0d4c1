-- The written forms of an operand, each as a pattern: E stands for an expression, every other character for itself.
use Rattle.std.specs.Prelude.{◌∷◌, Bool, List, [], codes, false, true, ℕ}
use Rattle.stmt65.specs.Types.{AbsoluteX, AbsoluteY, AddressSize, Direct, DirectX, DirectY, Immediate, Notation, Pattern, Plain, pattern_text}
use Rattle.stmt65.specs.declared.source_line.AddressSize.TheVariants as size
use Rattle.stmt65.specs.declared.source_line.Notation.TheVariants.{Half, Absolute}
use Rattle.stmt65.specs.SourceLine.{Value, Form, Empty, Accumulator, One, Two}

-- the pattern of a notation, without `a:` and without the `<` or `>` of a half
abbrev pub pattern_of : Notation → Pattern
pattern_of (Plain pattern) = pattern
pattern_of (Half half) = Immediate
pattern_of Absolute = Direct
pattern_of AbsoluteX = DirectX
pattern_of AbsoluteY = DirectY

-- a pattern, after `a:` if the operand is absolute; only these three can be so
abbrev pub sized : AddressSize → Pattern → Notation
sized size.Automatic pattern = Plain pattern
sized size.Absolute Direct = Absolute
sized size.Absolute DirectX = AbsoluteX
sized size.Absolute DirectY = AbsoluteY
sized size.Absolute pattern = Plain pattern

-- the pattern of a form
abbrev pub form_text : Form → List ℕ
form_text Empty = codes ""
form_text Accumulator = codes "a"
form_text (One notation v) = pattern_text (pattern_of notation)
form_text (Two v w) = codes "E,E"

-- its expressions, in order
abbrev pub form_values : Form → List Value
form_values Empty = []
form_values Accumulator = []
form_values (One notation v) = v ∷ []
form_values (Two v w) = v ∷ w ∷ []

-- whether `a:` stands before it
abbrev pub has_prefix : Form → Bool
has_prefix (One Absolute v) = true
has_prefix (One AbsoluteX v) = true
has_prefix (One AbsoluteY v) = true
has_prefix _ = false
