-- How the operands of an instruction are written: as the pattern of the mode, with the expressions in it.
--
-- A number has two or four digits by the kind of the operand. A name stands alone or with `+` and an offset; `+0` is
-- not written. An offset is decimal, or with `hexoffs` `$` and two digits below $100, else four.
use Rattle.std.specs.Prelude.{if◌then◌else◌, ◌++◌, ◌==◌, ◌∷◌, Bool, List, [], codes, false, true, ℕ}
use Rattle.stmt65.specs.Types.{Byte, Mode, OperandKind, Row, expression, row_of, row_text}
use Rattle.isa65.specs.declared.row.OperandKind.TheVariants.{ZeroPage, Word, Distance}
use Rattle.isa65.specs.declared.row.Row.TheVariants.{One, Two}
use Rattle.stmt65.specs.Digits.{hex2, hex4, offset_text}
use Rattle.stmt65.specs.Views.{ExprView, OperandsView}
use Rattle.stmt65.specs.Views as view

-- a name, or a name and what is added to its value
abbrev pub named_text : Bool → List ℕ → ℕ → List ℕ
named_text hexoffs name offset = if offset == 0 then name else name ++ codes "+" ++ offset_text hexoffs offset

-- an expression, its number in two digits
abbrev pub short_text : Bool → ExprView → List ℕ
short_text hexoffs (view.number n) = hex2 n
short_text hexoffs (view.name name offset) = named_text hexoffs name offset

-- an expression, its number in four digits
abbrev pub long_text : Bool → ExprView → List ℕ
long_text hexoffs (view.number n) = hex4 n
long_text hexoffs (view.name name offset) = named_text hexoffs name offset

-- an operand of a kind: a word and the target of a distance have four digits
abbrev pub kind_text : Bool → OperandKind → ExprView → List ℕ
kind_text hexoffs Byte e = short_text hexoffs e
kind_text hexoffs ZeroPage e = short_text hexoffs e
kind_text hexoffs Word e = long_text hexoffs e
kind_text hexoffs Distance e = long_text hexoffs e

-- the operands of a row, if they are as many as it writes
abbrev pub kind_texts : Bool → Row → OperandsView → List (List ℕ)
kind_texts hexoffs (One pattern kind) (view.one e) = kind_text hexoffs kind e ∷ []
kind_texts hexoffs (Two first second) (view.two e f) = kind_text hexoffs first e ∷ kind_text hexoffs second f ∷ []
kind_texts hexoffs _ _ = []

-- the prefix that makes an operand absolute
abbrev pub prefix_text : Bool → List ℕ
prefix_text true = codes "a:"
prefix_text false = []

-- a pattern with the next of the texts in place of each E
abbrev pub in_pattern : List ℕ → List (List ℕ) → List ℕ
in_pattern [] texts = []
in_pattern (c ∷ pattern) [] = c ∷ in_pattern pattern []
in_pattern (c ∷ pattern) (t ∷ texts) = if c == expression then t ++ in_pattern pattern texts else c ∷ in_pattern pattern (t ∷ texts)

-- the pattern of a row, with the operands in it
abbrev pub in_row : Bool → Row → OperandsView → List ℕ
in_row hexoffs row operands = in_pattern (row_text row) (kind_texts hexoffs row operands)

abbrev pub row_operands : Bool → Row → Bool → OperandsView → List ℕ
row_operands hexoffs row absolute operands = prefix_text absolute ++ in_row hexoffs row operands

-- The operands of an instruction in its mode. `hexoffs` says whether offsets have hex digits,
-- `absolute` whether `a:` stands before them.
unfoldable pub operand_text : Bool → Mode → Bool → OperandsView → List ℕ
operand_text hexoffs m absolute operands = row_operands hexoffs (row_of m) absolute operands
