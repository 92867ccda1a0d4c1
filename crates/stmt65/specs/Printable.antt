-- What a caller of `put_line` keeps: the limits within which a line has at most 512 bytes and reads as its statement.
use Rattle.std.specs.Prelude.{◌%◌, ◌<◌, ◌==◌, ◌≡◌, ◌≤◌, Bool, IsSome, List, None, Option, Some, length, not, true, ℕ}
use Rattle.std.specs.List.{list_all}
use Rattle.stmt65.specs.Types.{Byte, Columns, Directive, Implied, Mode, OperandKind, Row, row_of, zero_page_of}
use Rattle.isa65.specs.declared.row.OperandKind.TheVariants.{ZeroPage, Word, Distance}
use Rattle.isa65.specs.declared.row.Row.TheVariants.{Accumulator, One, Two}
use Rattle.stmt65.specs.Columns.{fits_label}
use Rattle.stmt65.specs.Tables.{entry_len}
use Rattle.stmt65.specs.Statements.{has_bytes}
use Rattle.stmt65.specs.Views.{ExprView, OperandsView, StatementView}
use Rattle.stmt65.specs.Views as view

-- a number below $100, without a name
abbrev pub IsByte : ExprView → Type 0
IsByte (view.number n) = n < 256
IsByte (view.name name offset) = ⊥

-- a name has 1 to 80 bytes
abbrev pub IsNameLong : List ℕ → Type 0
IsNameLong name = (1 ≤ length name) × (length name ≤ 80)

-- what can stand where numbers have two digits: a number below $100, or a name
abbrev pub IsShort : ExprView → Type 0
IsShort (view.number n) = n < 256
IsShort (view.name name offset) = IsNameLong name

-- what can stand where numbers have four digits
abbrev pub IsLong : ExprView → Type 0
IsLong (view.number n) = Unit {0}
IsLong (view.name name offset) = IsNameLong name

-- what can be an operand of a kind
abbrev pub IsOperand : OperandKind → ExprView → Type 0
IsOperand Byte e = IsByte e
IsOperand ZeroPage e = IsShort e
IsOperand Word e = IsLong e
IsOperand Distance e = IsLong e

abbrev pub AreOperands : Row → OperandsView → Type 0
AreOperands Implied view.none = Unit {0}
AreOperands Accumulator view.none = Unit {0}
AreOperands (One pattern kind) (view.one e) = IsOperand kind e
AreOperands (Two first second) (view.two e f) = IsOperand first e × IsOperand second f
AreOperands _ _ = ⊥

-- The operands are as many as the mode writes, and can stand there.
abbrev pub IsWrittenIn : Mode → OperandsView → Type 0
IsWrittenIn m operands = AreOperands (row_of m) operands

-- `a:` stands only in a mode with a zero-page mode that is written alike
abbrev pub MayBeForced : Mode → Bool → Type 0
MayBeForced m absolute = absolute ≡ true → IsSome (zero_page_of m)

-- a line of a table has an entry at least, whole entries, and at most 8 bytes
abbrev pub IsTable : Directive → List ℕ → Type 0
IsTable d bytes = (length bytes % entry_len d ≡ 0) × ((entry_len d ≤ length bytes) × (length bytes ≤ 8))

-- The statement keeps the limits of its kind.
abbrev pub IsPrintable : StatementView → Type 0
IsPrintable (view.instr op absolute operands) = IsWrittenIn op.mode operands × MayBeForced op.mode absolute
IsPrintable (view.bytes bs) = (1 ≤ length bs) × (length bs ≤ 8)
IsPrintable (view.text bs) = (1 ≤ length bs) × (length bs ≤ 16)
IsPrintable (view.numbers d bs) = IsTable d bs
IsPrintable (view.addr t) = IsNameLong t.name
IsPrintable (view.rts (Some t)) = IsNameLong t.name
IsPrintable (view.label name) = IsNameLong name
IsPrintable (view.assignment name n) = IsNameLong name
IsPrintable (view.forward name n) = IsNameLong name
IsPrintable (view.segment name) = IsNameLong name
IsPrintable (view.remark text) = (length text ≤ 200) × (list_all (λ b. not (b == 10)) text ≡ true)
IsPrintable _ = Unit {0}

-- an instruction or data
abbrev pub TakesLabel : StatementView → Type 0
TakesLabel s = has_bytes s ≡ true

-- A label stands only on the line of an instruction or of data, if it fits there.
-- Any other label takes a line of its own.
abbrev pub MayBeLabelled : Columns → Option (List ℕ) → StatementView → Type 0
MayBeLabelled c None s = Unit {0}
MayBeLabelled c (Some name) s = TakesLabel s × IsNameLong name × (fits_label c name ≡ true)
