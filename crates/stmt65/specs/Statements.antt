-- The operation and operands of each statement, as the fields of its line.
--
-- The operation stands at the mnemonic column and its operands at the argument column. A return entry is `.word`, the
-- target's name with its offset and `-1`, or `.word $FFFF` without a target. A definition is a name at column 1, and at
-- the argument column `:=` with the value in four hex digits, or with `* + n` for a name that lies n bytes after the
-- line. A label or a remark stands at column 1.
use Rattle.std.specs.Prelude.{decimal, if◌then◌else◌, ◌++◌, ◌∷◌, Bool, List, None, Option, Some, [], codes, false, reverse, true, ℕ}
use Rattle.std.specs.List.{flat_map}
use Rattle.stmt65.specs.Types.{Columns, Directive, Imp, Mode, Op, cpu_text, text_of}
use Rattle.stmt65.specs.Directives.{directive_text}
use Rattle.stmt65.specs.Digits.{digits2, hex2, hex4}
use Rattle.stmt65.specs.Operands.{named_text, operand_text}
use Rattle.stmt65.specs.SourceLine.{Datum}
use Rattle.stmt65.specs.SourceLine as source
use Rattle.stmt65.specs.Tables.{in_order, order_of, entries, cut_text}
use Rattle.stmt65.specs.Views.{OperandsView, StatementView, TargetView}
use Rattle.stmt65.specs.Views as view

-- An instruction or data: a statement that has bytes.
abbrev pub has_bytes : StatementView → Bool
has_bytes (view.instr op absolute operands) = true
has_bytes (view.bytes bs) = true
has_bytes (view.text bs) = true
has_bytes (view.numbers d bs) = true
has_bytes (view.addr t) = true
has_bytes (view.rts t) = true
has_bytes _ = false

-- a column, and the text that stands there
abbrev pub Field : Type 0
Field = ℕ × List ℕ

-- the text of an item after others
abbrev pub next_text : {A : Type 0} → (A → List ℕ) → A → List ℕ
next_text text x = codes "," ++ text x

-- the texts of items, joined by commas
unfoldable pub comma_list : {A : Type 0} → (A → List ℕ) → List A → List ℕ
comma_list text [] = []
comma_list text (x ∷ xs) = text x ++ flat_map (next_text text) xs

-- bytes in two hex digits
abbrev pub bytes_text : List ℕ → List ℕ
bytes_text = comma_list hex2

-- a text in double quotes
abbrev pub quoted : List ℕ → List ℕ
quoted text = codes "\"" ++ text ++ codes "\""

-- a byte in two hex digits, a stretch of text in double quotes; a listing has no other data
abbrev pub datum_text : Datum → List ℕ
datum_text (source.NumberDatum b) = hex2 b
datum_text (source.StringDatum stretch) = quoted stretch
datum_text _ = []

-- bytes and stretches of text
abbrev pub data_text : List Datum → List ℕ
data_text = comma_list datum_text

-- an entry in two hex digits for each of its bytes, the high one first
abbrev pub entry_text : Directive → List ℕ → List ℕ
entry_text d bytes = codes "$" ++ flat_map digits2 (reverse (in_order (order_of d) bytes))

-- the entries of a table
abbrev pub numbers_text : Directive → List ℕ → List ℕ
numbers_text d bytes = comma_list (entry_text d) (entries d bytes)

-- the entry of a return table: the target, less 1; or, without a target, the word $FFFF
abbrev pub return_text : Bool → Option TargetView → List ℕ
return_text hexoffs None = codes "$FFFF"
return_text hexoffs (Some t) = named_text hexoffs t.name t.offset ++ codes "-1"

-- the distance of a name from its own line: in decimal, or in four hex digits
abbrev pub distance_text : Bool → ℕ → List ℕ
distance_text hexoffs n = if hexoffs then hex4 n else decimal n

-- every mode but `Imp` writes an operand
abbrev pub has_operand : Mode → Bool
has_operand Imp = false
has_operand _ = true

-- an operation at its column
abbrev pub alone : Columns → List ℕ → List Field
alone c operation = (c.mnemonic, operation) ∷ []

-- an operation, and its operands at their column
abbrev pub with_operands : Columns → List ℕ → List ℕ → List Field
with_operands c operation operands = (c.mnemonic, operation) ∷ (c.argument, operands) ∷ []

-- a mnemonic, and its operand if its mode has one
abbrev pub instr_fields : Columns → Bool → Op → Bool → OperandsView → List Field
instr_fields c hexoffs op absolute operands =
    if has_operand op.mode then with_operands c (text_of op.mnemonic) (operand_text hexoffs op.mode absolute operands) else alone c (text_of op.mnemonic)

-- a remark begins the line
abbrev pub remark_fields : List ℕ → List Field
remark_fields text = (1, codes "; " ++ text) ∷ []

-- a label begins the line
abbrev pub label_fields : Option (List ℕ) → List Field
label_fields None = []
label_fields (Some name) = (1, name ++ codes ":") ∷ []

-- a name begins the line, and its value stands at the argument column
abbrev pub definition_fields : Columns → List ℕ → List ℕ → List Field
definition_fields c name value = (1, name) ∷ (c.argument, codes ":= " ++ value) ∷ []

-- The fields of a statement. `hexoffs` says whether offsets have hex digits.
abbrev pub fields_of : Columns → Bool → StatementView → List Field
fields_of c hexoffs (view.instr op absolute operands) = instr_fields c hexoffs op absolute operands
fields_of c hexoffs (view.bytes bs) = with_operands c (codes ".byte") (bytes_text bs)
fields_of c hexoffs (view.text bs) = with_operands c (codes ".byte") (data_text (cut_text bs))
fields_of c hexoffs (view.numbers d bs) = with_operands c (directive_text d) (numbers_text d bs)
fields_of c hexoffs (view.addr t) = with_operands c (codes ".addr") (named_text hexoffs t.name t.offset)
fields_of c hexoffs (view.rts t) = with_operands c (codes ".word") (return_text hexoffs t)
fields_of c hexoffs (view.label name) = label_fields (Some name)
fields_of c hexoffs (view.assignment name n) = definition_fields c name (hex4 n)
fields_of c hexoffs (view.forward name n) = definition_fields c name (codes "* + " ++ distance_text hexoffs n)
fields_of c hexoffs (view.segment name) = with_operands c (codes ".segment") (quoted name)
fields_of c hexoffs view.code = alone c (codes ".code")
fields_of c hexoffs (view.set_cpu cpu) = with_operands c (codes ".setcpu") (quoted (cpu_text cpu))
fields_of c hexoffs view.blank = []
fields_of c hexoffs (view.remark text) = remark_fields text
