-- What a line says, by its parts, as the reader goes: each step is decided by the next part.
--
-- A line of a repair can say all that one of a listing can, and more: each row that has more asks for the language.
use Rattle.std.specs.Prelude.{if◌then◌else◌, ◌+◌, ◌==◌, ◌∷◌, Bool, List, None, Option, Some, [], codes, drop, false, length, option_and_then, suc, true, zero, ℕ}
use Rattle.std.specs.Str.{bytes_eq}
use Rattle.stmt65.specs.Types.{AddressSize, Asl, Automatic, Dec, Direct, DirectX, DirectY, Directive, High, Immediate, Inc, Indirect, IndirectX, IndirectY, Language, Listing, Low, Lsr, Mnemonic, Repair, Rol, Ror, Zero, has_name_form, mnemonic_named}
use Rattle.stmt65.specs.Signs.{hash, left_paren, right_paren, star, plus, comma, minus, colon, less, equals, greater}
use Rattle.stmt65.specs.Forms.{sized}
use Rattle.stmt65.specs.SourceLine.{is_absolute, Value, NumberValue, NameValue, LessValue, DifferenceValue, Form, Empty, Accumulator, One, Two, Datum, NumberDatum, StringDatum, ValueDatum, HalfDatum, Operation, Nothing, Instr, Data, Values, Reserve, Segment, Code, SetCpu, SourceLine, Assignment, PlaceAssignment, Statement}
use Rattle.stmt65.specs.declared.source_line.AddressSize.TheVariants.{Absolute}
use Rattle.stmt65.specs.declared.source_line.Half.{Half}
use Rattle.stmt65.specs.declared.source_line.Minus.TheVariants.{One as MinusOne}
use Rattle.stmt65.specs.declared.source_line.Notation.TheVariants as notation
use Rattle.stmt65.specs.Parts.{Part, Word, Number, Text, Define, Mark, number_of}
use Rattle.stmt65.specs.Names.{same, is_name}
use Rattle.stmt65.specs.Symbols.{here}
use Rattle.stmt65.specs.Directives.{directive_named}

infixl 10 ◌>>=◌
abbrev pub ◌>>=◌ : {A B : Type 0} → Option A → (A → Option B) → Option B
o >>= f = option_and_then f o

-- ---- the next part

abbrev pub is_nil : List Part → Bool
is_nil [] = true
is_nil (p ∷ ps) = false

-- this byte by itself
abbrev pub is_mark : ℕ → List Part → Bool
is_mark b (Mark c ∷ ps) = c == b
is_mark b _ = false

-- `:=`
abbrev pub is_define : List Part → Bool
is_define (Define ∷ ps) = true
is_define _ = false

-- this word, in any case
abbrev pub is_word_here : List ℕ → List Part → Bool
is_word_here text (Word w ∷ ps) = same w text
is_word_here text _ = false

-- a number that is written so
abbrev pub is_number_here : List ℕ → List Part → Bool
is_number_here text (Number t ∷ ps) = bytes_eq t text
is_number_here text _ = false

-- a number, and the parts after it
abbrev pub number_in : List Part → Option (ℕ × List Part)
number_in (Number t ∷ ps) = Some (number_of t, ps)
number_in _ = None

-- what was read, if nothing is left
abbrev pub whole : {A : Type 0} → A → List Part → Option A
whole x [] = Some x
whole x (p ∷ ps) = None

-- ---- expressions

-- what is read where a name has to stand
abbrev pub if_name : {X : Type 0} → List ℕ → Option X → Option X
if_name w read = if is_name w then read else None

-- a name, and the parts after it
abbrev pub name_in : List Part → Option (List ℕ × List Part)
name_in (Word w ∷ ps) = if_name w (Some (w, ps))
name_in _ = None

-- after a name and `-`: in a repair a number or another name
abbrev pub less_at : Language → List ℕ → List Part → Option (Value × List Part)
less_at Listing w ps = None
less_at Repair w (Number t ∷ ps) = Some (LessValue w (number_of t), ps)
less_at Repair w ps = name_in ps >>= λ v. Some (DifferenceValue w v.0, v.1)

-- after a name and what is added to it: `-1`, the digit 1 itself; in a repair more that is subtracted; or nothing
unfoldable pub less_one : Language → List ℕ → ℕ → List Part → Option (Value × List Part)
less_one language w n ps =
    if is_mark minus ps then
    (if is_number_here (codes "1") (drop 1 ps) then Some (NameValue w n MinusOne, drop 1 (drop 1 ps)) else less_at language w (drop 1 ps))
    else Some (NameValue w n Zero, ps)

-- after a name: `+` and a number, or nothing; from a sum only 1 is subtracted
unfoldable pub named_at : Language → List ℕ → List Part → Option (Value × List Part)
named_at language w ps = if is_mark plus ps then (number_in (drop 1 ps) >>= λ n. less_one Listing w n.0 n.1) else less_one language w 0 ps

-- after the number n: in a repair `+` and a number that is added to it, or nothing
abbrev pub number_at : Language → ℕ → List Part → Option (Value × List Part)
number_at Listing n ps = Some (NumberValue n, ps)
number_at Repair n ps = if is_mark plus ps then (number_in (drop 1 ps) >>= λ m. Some (NumberValue (n + m.0), m.1)) else Some (NumberValue n, ps)

-- after this byte by itself: in a repair `*` is a name
abbrev pub mark_value : Language → ℕ → List Part → Option (Value × List Part)
mark_value Listing b ps = None
mark_value Repair b ps = if b == star then named_at Repair here ps else None

unfoldable pub next_value : Language → List Part → Option (Value × List Part)
next_value language (Number t ∷ ps) = number_at language (number_of t) ps
next_value language (Word w ∷ ps) = if_name w (named_at language w ps)
next_value language (Mark b ∷ ps) = mark_value language b ps
next_value language _ = None

-- whether it is a difference of names
abbrev pub is_difference : Value → Bool
is_difference (DifferenceValue w v) = true
is_difference _ = false

-- the address in an operand: any expression but a difference of names
abbrev pub next_address : Language → List Part → Option (Value × List Part)
next_address Listing ps = next_value Listing ps
next_address Repair ps = next_value Repair ps >>= λ v. if is_difference v.0 then None else Some v

-- ---- halves

-- an expression and `)`
abbrev pub bracketed_in : List Part → Option (Value × List Part)
bracketed_in ps = next_value Repair ps >>= λ v. if is_mark right_paren v.1 then Some (v.0, drop 1 v.1) else None

-- what `<` and `>` take: a number, a name, `*`, or an expression in parentheses, since ca65
-- reads `<name+1` as one more than the half
unfoldable pub halved_in : List Part → Option (Value × List Part)
halved_in (Number t ∷ ps) = Some (NumberValue (number_of t), ps)
halved_in (Word w ∷ ps) = if_name w (Some (NameValue w 0 Zero, ps))
halved_in (Mark b ∷ ps) = if b == left_paren then bracketed_in ps else (if b == star then Some (NameValue here 0 Zero, ps) else None)
halved_in _ = None

-- ---- operands

-- after the first expression; `size` says whether `a:` stands before it
unfoldable pub tail_at : Language → AddressSize → Value → List Part → Option Form
tail_at language size v ps =
    if is_mark comma ps then
    (if is_word_here (codes "x") (drop 1 ps) then whole (One (sized size DirectX) v) (drop 1 (drop 1 ps))
    else (if is_word_here (codes "y") (drop 1 ps) then whole (One (sized size DirectY) v) (drop 1 (drop 1 ps))
    else (if is_absolute size then None else (next_address language (drop 1 ps) >>= λ w. whole (Two v w.0) w.1))))
    else whole (One (sized size Direct) v) ps

-- after `(` and an expression
unfoldable pub inner_at : Value → List Part → Option Form
inner_at v ps =
    if is_mark right_paren ps then
    (if is_mark comma (drop 1 ps) then (if is_word_here (codes "y") (drop 1 (drop 1 ps)) then whole (One (notation.Plain IndirectY) v) (drop 1 (drop 1 (drop 1 ps))) else None)
    else whole (One (notation.Plain Indirect) v) (drop 1 ps))
    else (if is_mark comma ps then
    (if is_word_here (codes "x") (drop 1 ps) then (if is_mark right_paren (drop 1 (drop 1 ps)) then whole (One (notation.Plain IndirectX) v) (drop 1 (drop 1 (drop 1 ps))) else None) else None)
    else None)

-- after `#` and `<` or `>`
abbrev pub half_form : Half → List Part → Option Form
half_form half ps = halved_in ps >>= λ v. whole (One (notation.Half half) v.0) v.1

-- after `#`
unfoldable pub immediate_of : Language → List Part → Option Form
immediate_of Listing ps = next_value Listing ps >>= λ v. whole (One (notation.Plain Immediate) v.0) v.1
immediate_of Repair ps =
    if is_mark less ps then half_form Low (drop 1 ps)
    else (if is_mark greater ps then half_form High (drop 1 ps)
    else (next_value Repair ps >>= λ v. whole (One (notation.Plain Immediate) v.0) v.1))

-- everything after a mnemonic
unfoldable pub form_of : Language → List Part → Option Form
form_of language ps =
    if is_mark hash ps then immediate_of language (drop 1 ps)
    else (if is_mark left_paren ps then (next_address language (drop 1 ps) >>= λ v. inner_at v.0 v.1)
    else (if is_word_here (codes "a") ps then
    (if is_mark colon (drop 1 ps) then (next_address language (drop 1 (drop 1 ps)) >>= λ v. tail_at language Absolute v.0 v.1) else whole Accumulator (drop 1 ps))
    else (if is_nil ps then Some Empty
    else (next_address language ps >>= λ v. tail_at language Automatic v.0 v.1))))

-- ---- lists joined by commas

-- at most this many
unfoldable pub joined : {A : Type 0} → (List Part → Option (A × List Part)) → ℕ → List Part → Option (List A)
joined read zero ps = None
joined read (suc most) ps =
    read ps >>= λ first.
    if is_mark comma first.1 then (joined read most (drop 1 first.1) >>= λ others. Some (first.0 ∷ others)) else whole (first.0 ∷ []) first.1

-- one or more, and nothing after them
abbrev pub list_of : {A : Type 0} → (List Part → Option (A × List Part)) → List Part → Option (List A)
list_of read ps = joined read (suc (length ps)) ps

-- after the word w: in a repair an expression with this name
unfoldable pub word_datum : Language → List ℕ → List Part → Option (Datum × List Part)
word_datum Listing w ps = None
word_datum Repair w ps = if_name w (named_at Repair w ps >>= λ v. Some (ValueDatum v.0, v.1))

-- after `<` or `>`
abbrev pub half_datum : Half → List Part → Option (Datum × List Part)
half_datum half ps = halved_in ps >>= λ v. Some (HalfDatum half v.0, v.1)

-- after this byte by itself: in a repair a half, or an expression with `*`
unfoldable pub mark_datum : Language → ℕ → List Part → Option (Datum × List Part)
mark_datum Listing b ps = None
mark_datum Repair b ps = if b == less then half_datum Low ps else (if b == greater then half_datum High ps else (mark_value Repair b ps >>= λ v. Some (ValueDatum v.0, v.1)))

-- after the number n: in a repair a number that is added to it makes both an expression
abbrev pub number_datum : Language → ℕ → List Part → Option (Datum × List Part)
number_datum Listing n ps = Some (NumberDatum n, ps)
number_datum Repair n ps = if is_mark plus ps then (number_in (drop 1 ps) >>= λ m. Some (ValueDatum (NumberValue (n + m.0)), m.1)) else Some (NumberDatum n, ps)

unfoldable pub next_datum : Language → List Part → Option (Datum × List Part)
next_datum language (Number t ∷ ps) = number_datum language (number_of t) ps
next_datum language (Text t ∷ ps) = Some (StringDatum t, ps)
next_datum language (Word w ∷ ps) = word_datum language w ps
next_datum language (Mark b ∷ ps) = mark_datum language b ps
next_datum language _ = None

-- the half of an expression in a list of halves
unfoldable pub next_half : Half → List Part → Option (Datum × List Part)
next_half half ps = next_value Repair ps >>= λ v. Some (HalfDatum half v.0, v.1)

-- ---- operations

unfoldable pub text_in : List Part → Option (List ℕ)
text_in (Text t ∷ ps) = whole t ps
text_in _ = None

abbrev pub data_of : (List Part → Option (Datum × List Part)) → List Part → Option Operation
data_of read ps = list_of read ps >>= λ xs. Some (Data xs)

abbrev pub values_of : Language → Directive → List Part → Option Operation
values_of language d ps = list_of (next_value language) ps >>= λ vs. Some (Values d vs)

-- a string of the form of a name, reserved or not
abbrev pub segment_of : List Part → Option Operation
segment_of ps = text_in ps >>= λ t. if has_name_form t then Some (Segment t) else None

abbrev pub set_cpu_of : List Part → Option Operation
set_cpu_of ps = text_in ps >>= λ t. Some (SetCpu t)

-- a number of bytes, and after a comma their value, which is else 0
abbrev pub reserve_of : List Part → Option Operation
reserve_of ps = number_in ps >>= λ n.
    if is_mark comma n.1 then (number_in (drop 1 n.1) >>= λ v. whole (Reserve n.0 v.0) v.1) else whole (Reserve n.0 0) n.1

-- an instruction that can work on the accumulator
abbrev pub takes_accumulator : Mnemonic → Bool
takes_accumulator Asl = true
takes_accumulator Lsr = true
takes_accumulator Rol = true
takes_accumulator Ror = true
takes_accumulator Inc = true
takes_accumulator Dec = true
takes_accumulator _ = false

-- without an operand, in a repair, it does
abbrev pub operand_in : Language → Mnemonic → Form → Form
operand_in Repair m Empty = if takes_accumulator m then Accumulator else Empty
operand_in language m form = form

abbrev pub instruction_of : Language → List ℕ → List Part → Option Operation
instruction_of language w ps = mnemonic_named w >>= λ m. form_of language ps >>= λ f. Some (Instr m (operand_in language m f))

-- in a repair a list of halves or reserved bytes; else an instruction
unfoldable pub further_at : Language → List ℕ → List Part → Option Operation
further_at Listing w ps = instruction_of Listing w ps
further_at Repair w ps =
    if same w (codes ".lobytes") then data_of (next_half Low) ps
    else (if same w (codes ".hibytes") then data_of (next_half High) ps
    else (if same w (codes ".res") then reserve_of ps
    else instruction_of Repair w ps))

-- an operation that begins with the word w, which is none of the directives that give numbers
unfoldable pub other_at : Language → List ℕ → List Part → Option Operation
other_at language w ps =
    if same w (codes ".byte") then data_of (next_datum language) ps
    else (if same w (codes ".segment") then segment_of ps
    else (if same w (codes ".code") then whole Code ps
    else (if same w (codes ".setcpu") then set_cpu_of ps
    else further_at language w ps)))

-- with a directive its numbers, without one another operation
abbrev pub values_or : Language → Option Directive → List Part → Option Operation → Option Operation
values_or language None ps other = other
values_or language (Some d) ps other = values_of language d ps

-- an operation that begins with the word w
unfoldable pub operation_at : Language → List ℕ → List Part → Option Operation
operation_at language w ps = values_or language (directive_named w) ps (other_at language w ps)

unfoldable pub operation_of : Language → List Part → Option Operation
operation_of language [] = Some Nothing
operation_of language (Word w ∷ ps) = operation_at language w ps
operation_of language _ = None

-- ---- lines

-- after the name w, to which a number is given
abbrev pub number_of_name : List ℕ → List Part → Option SourceLine
number_of_name w ps = number_in ps >>= λ n. whole (Assignment w n.0) n.1

-- after the name w and `:=`
unfoldable pub constant_of : List ℕ → List Part → Option SourceLine
constant_of w ps =
    if is_mark star ps then (if is_mark plus (drop 1 ps) then (number_in (drop 1 (drop 1 ps)) >>= λ n. whole (PlaceAssignment w n.0) n.1) else None)
    else number_of_name w ps

-- an operation, if it is one, after an optional label
abbrev pub stated : Option (List ℕ) → Option Operation → Option SourceLine
stated label operation = operation >>= λ o. Some (Statement label o)

-- whether `=` stands here, which in a repair is as good as `:=` before a number
abbrev pub is_equals : Language → List Part → Bool
is_equals Listing ps = false
is_equals Repair ps = is_mark equals ps

-- a line that begins with the word w
unfoldable pub line_at : Language → List ℕ → List Part → Option SourceLine
line_at language w ps =
    if is_mark colon ps then if_name w (stated (Some w) (operation_of language (drop 1 ps)))
    else (if is_define ps then if_name w (constant_of w (drop 1 ps))
    else (if is_equals language ps then if_name w (number_of_name w (drop 1 ps))
    else stated None (operation_at language w ps)))

-- what the parts of a line say, or nothing if they are no line
unfoldable pub reading_of : Language → List Part → Option SourceLine
reading_of language [] = Some (Statement None Nothing)
reading_of language (Word w ∷ ps) = line_at language w ps
reading_of language _ = None
