-- What a text means from a start: its bytes, or the lowest fault of the lowest line that has one. In which language it
-- is read and where its segments begin is given; that of a listing is `meaning`.
--
-- Before each line there is a state: its address, the CPU, the definitions so far, and the layout. The faults of a line
-- are a list of tests, the lowest kind first; the first that holds counts.
use Rattle.std.specs.Prelude.{ℕ, ◌+◌, Bool, true, false, ◌||◌, not, List, [], ◌∷◌, ◌++◌, map, nat_lt, if◌then◌else◌, Option, Some, None, is_some, unwrap_or, Result, Ok, Err}
use Rattle.std.specs.List.{list_any, list_all, flat_map}
use Rattle.std.specs.Option.{option_map}
use Rattle.stmt65.specs.Types.{AsmFault, AsmFaultKind, Cpu, DefinedTwice, Language, Listing, M6502, NoSuchForm, OutOfRange, PastEnd, PastStart, Syntax, Undefined, UnknownCpu}
use Rattle.stmt65.specs.SourceLine.{Two, Operation, Nothing, Instr, Data, Values, Segment, SetCpu, SourceLine, Assignment, PlaceAssignment, Statement}
use Rattle.text65.specs.Lines.{text_lines}
use Rattle.stmt65.specs.Lexing.{parts}
use Rattle.stmt65.specs.Reading.{reading_of}
use Rattle.stmt65.specs.Symbols.{Definition, find_name, with_here}
use Rattle.isa65.specs.Words.{cpu_named}
use Rattle.stmt65.specs.Layout.{Layout, free, start_of, is_before}
use Rattle.stmt65.specs.Coding.{State, Fragment, fragment_fits, fragment_bytes, are_known, coding, coding_len}

-- ---- a line in its state

abbrev pub operation_in : SourceLine → Operation
operation_in (Assignment name n) = Nothing
operation_in (PlaceAssignment name n) = Nothing
operation_in (Statement label operation) = operation

-- what each byte of the line stands for; a form that the CPU has not gives none
unfoldable pub fragments_of : State → SourceLine → List Fragment
fragments_of s source = unwrap_or (coding s (operation_in source)) []

-- the address after the line
unfoldable pub next_of : State → SourceLine → ℕ
next_of s source = s.at + coding_len (fragments_of s source)

-- How many bytes of an operation ca65 has written when it reads its `*`: of `bbr0 E,*` two, of another one none. In a
-- list of several that would differ from one to the next, so there `*` has no value.
abbrev pub here_offset : Operation → Option ℕ
here_offset (Instr m (Two v w)) = Some 2
here_offset (Instr m form) = Some 0
here_offset (Data (d ∷ [])) = Some 0
here_offset (Values d (v ∷ [])) = Some 0
here_offset operation = None

-- the address that `*` is in an operation at an address
abbrev pub here_in : ℕ → Operation → Option ℕ
here_in at operation = option_map (λ n. at + n) (here_offset operation)

-- the definitions by which the operands of a line have their values; `all` are those of the whole text
abbrev pub names_for : List Definition → State → SourceLine → List Definition
names_for all s source = with_here (here_in s.at (operation_in source)) all

-- the CPU that the text of `.setcpu` names, in any letter case
abbrev pub cpu_set : List ℕ → Option Cpu
cpu_set text = cpu_named text

-- what the line defines
unfoldable pub defined_by : ℕ → SourceLine → List Definition
defined_by at (Assignment name n) = record { name = name; value = n; constant = true } ∷ []
defined_by at (PlaceAssignment name n) = record { name = name; value = at + n; constant = false } ∷ []
defined_by at (Statement None operation) = []
defined_by at (Statement (Some name) operation) = record { name = name; value = at; constant = false } ∷ []

-- ---- faults, each a test of its own

-- `.setcpu` with a text that is no CPU's
unfoldable pub has_unknown_cpu : Operation → Bool
has_unknown_cpu (SetCpu text) = not (is_some (cpu_set text))
has_unknown_cpu _ = false

-- a mnemonic without this form on the CPU
unfoldable pub has_no_form : State → SourceLine → Bool
has_no_form s source = not (is_some (coding s (operation_in source)))

-- a name that no line of the text defines
unfoldable pub is_undefined : List Definition → State → SourceLine → Bool
is_undefined all s source = not (are_known all (fragments_of s source))

-- a name that a line above defines
unfoldable pub is_twice : State → SourceLine → Bool
is_twice s source = list_any (λ d. is_some (find_name d.name s.above)) (defined_by s.at source)

-- a definition whose value is no address
abbrev pub has_large : List Definition → Bool
has_large ds = list_any (λ d. nat_lt 65535 d.value) ds

-- a definition or an operand whose value has no room
unfoldable pub is_out_of_range : List Definition → State → SourceLine → Bool
is_out_of_range all s source =
    has_large (defined_by s.at source) || not (list_all (fragment_fits all (next_of s source)) (fragments_of s source))

-- a segment that is entered past its start
unfoldable pub is_past_start : State → Operation → Bool
is_past_start s (Segment name) = is_before (start_of s.layout name) s.at
is_past_start s _ = false

-- a byte past $FFFF
unfoldable pub is_past_end : State → SourceLine → Bool
is_past_end s source = nat_lt 65536 (next_of s source)

-- a kind of fault, and whether the line has it
abbrev pub Test : Type 0
Test = AsmFaultKind × Bool

-- the first kind whose test holds
abbrev pub first_of : List Test → Option AsmFaultKind
first_of [] = None
first_of (t ∷ ts) = if t.1 then Some t.0 else first_of ts

-- the tests of a line, lowest kind first; `all` are the definitions by which its operands have their values
abbrev pub tests_of : List Definition → State → SourceLine → List Test
tests_of all s source =
    (UnknownCpu, has_unknown_cpu (operation_in source)) ∷
    (NoSuchForm, has_no_form s source) ∷
    (Undefined, is_undefined all s source) ∷
    (DefinedTwice, is_twice s source) ∷
    (OutOfRange, is_out_of_range all s source) ∷
    (PastStart, is_past_start s (operation_in source)) ∷
    (PastEnd, is_past_end s source) ∷ []

-- the lowest fault of a line
unfoldable pub fault_of : List Definition → State → Option SourceLine → Option AsmFaultKind
fault_of all s None = Some Syntax
fault_of all s (Some source) = first_of (tests_of (names_for all s source) s source)

-- ---- bytes

-- the bytes of a line that has no fault
unfoldable pub bytes_of : List Definition → State → Option SourceLine → List ℕ
bytes_of all s None = []
bytes_of all s (Some source) = flat_map (fragment_bytes (names_for all s source) (next_of s source)) (fragments_of s source)

-- ---- a line after the other

-- an unknown CPU leaves it as it was
unfoldable pub cpu_after : Cpu → Operation → Cpu
cpu_after cpu (SetCpu text) = unwrap_or (cpu_set text) cpu
cpu_after cpu _ = cpu

-- a line that is none defines nothing and has no length
unfoldable pub after : State → Option SourceLine → State
after s None = s
after s (Some source) = record { at = next_of s source; cpu = cpu_after s.cpu (operation_in source); above = s.above ++ defined_by s.at source; layout = s.layout }

-- below all lines
unfoldable pub final : State → List (Option SourceLine) → State
final s [] = s
final s (l ∷ ls) = final (after s l) ls

abbrev pub with_front : List ℕ → Result (List ℕ) AsmFault → Result (List ℕ) AsmFault
with_front front (Ok bytes) = Ok (front ++ bytes)
with_front front (Err fault) = Err fault

-- the fault of line n, or else what is there
abbrev pub unless : ℕ → Option AsmFaultKind → Result (List ℕ) AsmFault → Result (List ℕ) AsmFault
unless n None there = there
unless n (Some kind) there = Err (record { line = n; kind = kind })

-- the bytes of the lines from the n-th on, or the first fault
unfoldable pub coded : List Definition → ℕ → State → List (Option SourceLine) → Result (List ℕ) AsmFault
coded all n s [] = Ok []
coded all n s (l ∷ ls) = unless n (fault_of all s l) (with_front (bytes_of all s l) (coded all (n + 1) (after s l) ls))

-- ---- a text

-- before the first line; the CPU is the 6502
abbrev pub initial : Layout → ℕ → State
initial layout start = record { at = start; cpu = M6502; above = []; layout = layout }

-- what lines mean that are read already
unfoldable pub meaning_of : Layout → ℕ → List (Option SourceLine) → Result (List ℕ) AsmFault
meaning_of layout start ls = coded (final (initial layout start) ls).above 1 (initial layout start) ls

-- what the lines of a text say
abbrev pub readings : Language → List ℕ → List (Option SourceLine)
readings language text = map (λ l. reading_of language (parts language l)) (text_lines text)

-- the meaning of a text in a language, with segments that begin where the layout says, from a start
unfoldable pub meaning_in : Language → Layout → ℕ → List ℕ → Result (List ℕ) AsmFault
meaning_in language layout start text = meaning_of layout start (readings language text)

-- that of a listing
abbrev pub meaning : ℕ → List ℕ → Result (List ℕ) AsmFault
meaning start text = meaning_in Listing free start text
