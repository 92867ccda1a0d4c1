-- What a line of assembler source can say.
--
-- An assignment `name := number`, a place assignment `name := * + number`, or an optional label and an operation after
-- it. An expression is a number, a name with what is added to it or subtracted from it, or a difference of two names.
-- An operand after `#` and a datum of `.byte` may be half of an expression.
use Rattle.std.specs.Prelude.{Bool, List, Option, false, true, ℕ}
use Rattle.stmt65.specs.Types.{AddressSize, Automatic, Directive, Minus, Mnemonic, Notation}
use Rattle.stmt65.specs.declared.source_line.AddressSize.TheVariants.{Absolute}
use Rattle.stmt65.specs.declared.source_line.Half.{Half}

-- whether `a:` stands before an expression
abbrev pub is_absolute : AddressSize → Bool
is_absolute Absolute = true
is_absolute Automatic = false

-- an expression: a number; a name, the number that is added to its value, and what is subtracted; a name and the number
-- that is subtracted from its value; or the difference of two names
pub data Value : Type 0 where
  NumberValue : ℕ → Value
  NameValue : List ℕ → ℕ → Minus → Value
  LessValue : List ℕ → ℕ → Value
  DifferenceValue : List ℕ → List ℕ → Value

-- the written forms of an operand: no operand, `a`, one expression in its notation, or `E,E`
pub data Form : Type 0 where
  Empty : Form
  Accumulator : Form
  One : Notation → Value → Form
  Two : Value → Value → Form

-- an operand of `.byte`: a number, the bytes between the quotes of a string, another expression, or a half of one
pub data Datum : Type 0 where
  NumberDatum : ℕ → Datum
  StringDatum : List ℕ → Datum
  ValueDatum : Value → Datum
  HalfDatum : Half → Value → Datum

-- no operation, an instruction, or an operation of the assembler with its operands; of
-- `.res` a number of bytes and their value
pub data Operation : Type 0 where
  Nothing : Operation
  Instr : Mnemonic → Form → Operation
  Data : List Datum → Operation
  Values : Directive → List Value → Operation
  Reserve : ℕ → ℕ → Operation
  Segment : List ℕ → Operation
  Code : Operation
  SetCpu : List ℕ → Operation

-- `name := number`, `name := * + number`, or an optional label and an operation after it
pub data SourceLine : Type 0 where
  Assignment : List ℕ → ℕ → SourceLine
  PlaceAssignment : List ℕ → ℕ → SourceLine
  Statement : Option (List ℕ) → Operation → SourceLine
