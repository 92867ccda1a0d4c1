-- What the code's reading of a line stands for.
use Rattle.std.specs.Prelude.{◌+◌, map, ℕ}
use Rattle.std.specs.Option.{option_copied}
use Rattle.stmt65.specs.Types.{Numeral}
use Rattle.stmt65.specs.declared.source_line.Value.{Value as CodeValue}
use Rattle.stmt65.specs.declared.source_line.Value.TheVariants as code_value
use Rattle.stmt65.specs.declared.source_line.Form.{Form as CodeForm}
use Rattle.stmt65.specs.declared.source_line.Form.TheVariants as code_form
use Rattle.stmt65.specs.declared.source_line.Datum.{Datum as CodeDatum}
use Rattle.stmt65.specs.declared.source_line.Datum.TheVariants as code_datum
use Rattle.stmt65.specs.declared.source_line.Operation.{Operation as CodeOperation}
use Rattle.stmt65.specs.declared.source_line.Operation.TheVariants as code_operation
use Rattle.stmt65.specs.declared.source_line.SourceLine.{SourceLine as CodeSourceLine}
use Rattle.stmt65.specs.declared.source_line.SourceLine.TheVariants as code_source
use Rattle.stmt65.specs.Parts.{number_of}
use Rattle.stmt65.specs.SourceLine.{Value, NumberValue, NameValue, LessValue, DifferenceValue, Form, Empty, Accumulator, One, Two, Datum, NumberDatum, StringDatum, ValueDatum, HalfDatum, Operation, Nothing, Instr, Data, Values, Reserve, Segment, Code, SetCpu, SourceLine, Assignment, PlaceAssignment, Statement}

abbrev pub numeral_of : Numeral → ℕ
numeral_of n = number_of n.text.now

abbrev pub value_of : CodeValue → Value
value_of (code_value.Number n) = NumberValue (numeral_of n)
value_of (code_value.Sum n m) = NumberValue (numeral_of n + numeral_of m)
value_of (code_value.Name w n minus) = NameValue w.now (numeral_of n) minus
value_of (code_value.Less w n) = LessValue w.now (numeral_of n)
value_of (code_value.Difference w v) = DifferenceValue w.now v.now

abbrev pub form_of : CodeForm → Form
form_of code_form.Empty = Empty
form_of code_form.Accumulator = Accumulator
form_of (code_form.One notation v) = One notation (value_of v)
form_of (code_form.Two v w) = Two (value_of v) (value_of w)

abbrev pub datum_of : CodeDatum → Datum
datum_of (code_datum.Number n) = NumberDatum (numeral_of n)
datum_of (code_datum.String t) = StringDatum t.now
datum_of (code_datum.Value v) = ValueDatum (value_of v)
datum_of (code_datum.Half half v) = HalfDatum half (value_of v)

abbrev pub operation_of : {A : Type 0} → CodeOperation A → Operation
operation_of code_operation.Nothing = Nothing
operation_of (code_operation.Instr m f) = Instr m (form_of f)
operation_of (code_operation.Data xs) = Data (map datum_of xs.items)
operation_of (code_operation.Values d vs) = Values d (map value_of vs.items)
operation_of (code_operation.Reserve n v) = Reserve (numeral_of n) (numeral_of v)
operation_of (code_operation.Segment t) = Segment t.now
operation_of code_operation.Code = Code
operation_of (code_operation.SetCpu t) = SetCpu t.now

abbrev pub source_of : {A : Type 0} → CodeSourceLine A → SourceLine
source_of (code_source.Assignment w n) = Assignment w.now (numeral_of n)
source_of (code_source.PlaceAssignment w n) = PlaceAssignment w.now (numeral_of n)
source_of (code_source.Statement label o) = Statement (option_copied label) (operation_of o)
