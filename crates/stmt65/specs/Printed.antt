-- What the line of a statement says when it is read.
use Rattle.std.specs.Prelude.{◌++◌, ◌==◌, ◌∷◌, ◌≡◌, Bool, List, None, Option, Some, [], false, map, not, true, ℕ}
use Rattle.std.specs.List.{list_all}
use Rattle.stmt65.specs.Types.{Addr, AddressSize, Automatic, Directive, Listing, Mode, Row, Zero, cpu_text, has_name_form, row_of}
use Rattle.isa65.specs.declared.row.Row.TheVariants as row
use Rattle.stmt65.specs.Forms.{sized}
use Rattle.stmt65.specs.SourceLine.{Value, NumberValue, NameValue, Form, Empty, Accumulator, One, Two, NumberDatum, Nothing, Instr, Data, Values, Segment, Code, SetCpu, SourceLine, Assignment, PlaceAssignment, Statement}
use Rattle.stmt65.specs.declared.directive.Directive.TheVariants.{Word}
use Rattle.stmt65.specs.declared.source_line.AddressSize.TheVariants.{Absolute}
use Rattle.stmt65.specs.declared.source_line.Minus.TheVariants.{One as MinusOne}
use Rattle.stmt65.specs.Tables.{entries, entry_number, cut_text}
use Rattle.stmt65.specs.Names.{is_name}
use Rattle.stmt65.specs.Lexing.{parts}
use Rattle.stmt65.specs.Reading.{reading_of}
use Rattle.stmt65.specs.Views.{ExprView, OperandsView, TargetView, StatementView}
use Rattle.stmt65.specs.Views as view

abbrev pub source_value : ExprView → Value
source_value (view.number n) = NumberValue n
source_value (view.name name offset) = NameValue name offset Zero

-- `a:` makes an operand absolute
abbrev pub address_size : Bool → AddressSize
address_size true = Absolute
address_size false = Automatic

abbrev pub row_form : Row → AddressSize → OperandsView → Form
row_form row.Accumulator size view.none = Accumulator
row_form (row.One pattern kind) size (view.one e) = One (sized size pattern) (source_value e)
row_form (row.Two first second) size (view.two e f) = Two (source_value e) (source_value f)
row_form _ size _ = Empty

-- the written form of the operands in their mode; `absolute` says whether `a:` stands before them
unfoldable pub source_form : Mode → Bool → OperandsView → Form
source_form m absolute operands = row_form (row_of m) (address_size absolute) operands

-- an entry of a table
abbrev pub entry_value : Directive → List ℕ → Value
entry_value d bytes = NumberValue (entry_number d bytes)

-- the entry of a return table
abbrev pub return_value : Option TargetView → Value
return_value None = NumberValue 0xFFFF
return_value (Some t) = NameValue t.name t.offset MinusOne

-- A statement as it is read, without a label before it.
abbrev pub source_line : StatementView → SourceLine
source_line (view.instr op absolute operands) = Statement None (Instr op.mnemonic (source_form op.mode absolute operands))
source_line (view.bytes bs) = Statement None (Data (map NumberDatum bs))
source_line (view.text bs) = Statement None (Data (cut_text bs))
source_line (view.numbers d bs) = Statement None (Values d (map (entry_value d) (entries d bs)))
source_line (view.addr t) = Statement None (Values Addr (NameValue t.name t.offset Zero ∷ []))
source_line (view.rts t) = Statement None (Values Word (return_value t ∷ []))
source_line (view.label name) = Statement (Some name) Nothing
source_line (view.assignment name n) = Assignment name n
source_line (view.forward name n) = PlaceAssignment name n
source_line (view.segment name) = Statement None (Segment name)
source_line view.code = Statement None Code
source_line (view.set_cpu cpu) = Statement None (SetCpu (cpu_text cpu))
source_line view.blank = Statement None Nothing
source_line (view.remark text) = Statement None Nothing

-- the same with a label before its operation
abbrev pub with_label : Option (List ℕ) → SourceLine → SourceLine
with_label None line = line
with_label (Some name) (Statement label operation) = Statement (Some name) operation
with_label (Some name) line = line

-- a name that is not reserved
abbrev pub HasName : ExprView → Type 0
HasName (view.number n) = Unit {0}
HasName (view.name name offset) = is_name name ≡ true

abbrev pub HasNamesIn : OperandsView → Type 0
HasNamesIn view.none = Unit {0}
HasNamesIn (view.one e) = HasName e
HasNamesIn (view.two e f) = HasName e × HasName f

-- The names of the statement are names; that of a segment may be reserved.
abbrev pub HasNames : StatementView → Type 0
HasNames (view.instr op absolute operands) = HasNamesIn operands
HasNames (view.addr t) = is_name t.name ≡ true
HasNames (view.rts (Some t)) = is_name t.name ≡ true
HasNames (view.label name) = is_name name ≡ true
HasNames (view.assignment name n) = is_name name ≡ true
HasNames (view.forward name n) = is_name name ≡ true
HasNames (view.segment name) = has_name_form name ≡ true
HasNames _ = Unit {0}

-- A label is a name.
abbrev pub HasLabelName : Option (List ℕ) → Type 0
HasLabelName None = Unit {0}
HasLabelName (Some name) = is_name name ≡ true

-- The bytes are one line that reads so: its line feed is the only one.
pub record PrintsAs (bytes : List ℕ) (r : SourceLine) : Type 0 where
  pub line : List ℕ
  pub ends : bytes ≡ line ++ 10 ∷ []
  pub one_line : list_all (λ b. not (b == 10)) line ≡ true
  pub reads : reading_of Listing (parts Listing line) ≡ Some r

-- With names that are names, the bytes are one line that reads as the statement after this label.
abbrev pub ReadsBack : StatementView → Option (List ℕ) → List ℕ → Type 0
ReadsBack s label bytes = HasNames s → HasLabelName label → PrintsAs bytes (with_label label (source_line s))
