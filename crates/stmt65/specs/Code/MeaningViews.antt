-- What the assembler's values stand for.
use Rattle.std.specs.Prelude.{◌≡◌, ◌++◌, ◌+◌, ◌||◌, ℕ, Bool, not, List, [], ◌∷◌, map, nat_lt, Option, Some, None, is_none, is_some, unwrap_or, Result, Ok}
use Rattle.std.specs.List.{flat_map, list_all, list_any}
use Rattle.std.specs.Option.{option_map, option_to_list}
use Rattle.stmt65.specs.Types.{AsmFault, AsmFaultKind, Coded as CodeCoded, DefinedTwice, Fit, NoSuchForm, OutOfRange, PastEnd, PastStart, Placed, Syntax, Undefined, UnknownCpu}
use Rattle.stmt65.specs.declared.assembling.symbols.Definition.{Definition as CodeDefinition}
use Rattle.stmt65.specs.declared.assembling.state.State.{State as CodeState}
use Rattle.stmt65.specs.declared.source_line.SourceLine.{SourceLine as CodeSourceLine}
use Rattle.stmt65.specs.SourceLine.{Operation, SourceLine}
use Rattle.stmt65.specs.Symbols.{Definition, find_name, with_here}
use Rattle.stmt65.specs.Code.SourceLineViews.{source_of}
use Rattle.stmt65.specs.Code.SymbolViews.{definition_of}
use Rattle.stmt65.specs.Coding.{State, Fragment, are_known, coding, fragment_bytes, fragment_fits}
use Rattle.stmt65.specs.Code.CodingViews.{coded_of}
use Rattle.stmt65.specs.Code.Held.{held}
use Rattle.stmt65.specs.Meaning.{next_of, cpu_after, operation_in, defined_by, first_of, fragments_of, has_large, here_in, has_no_form, has_unknown_cpu, is_past_start, unless, with_front}

-- ---- a line

abbrev pub state_of : {A : Type 0} → CodeState A → List Definition → State
state_of s above = record { at = s.address; cpu = s.opcodes; above = above; layout = s.layout.now }

-- a definition as the code holds it
abbrev pub held_definition : Definition → Definition
held_definition d = record { name = d.name; value = held d.value; constant = d.constant }

abbrev pub held_definitions : List Definition → List Definition
held_definitions ds = map held_definition ds

abbrev pub fragments_in : Option CodeCoded → List Fragment
fragments_in coded = unwrap_or (option_map coded_of coded) []

abbrev pub definitions_in : Option CodeDefinition → List Definition
definitions_in d = option_to_list (option_map definition_of d)

-- what the operation of a line is
abbrev pub line_operation : {A : Type 0} → CodeSourceLine A → Operation
line_operation source = operation_in (source_of source)

-- whether one of these names has a definition above
abbrev pub is_named_in : List Definition → List Definition → Bool
is_named_in above ds = list_any (λ d. is_some (find_name d.name above)) ds

-- the coding is what an operation stands for in its state
abbrev pub IsCoding : Option CodeCoded → State → Operation → Type 0
IsCoding coded s operation = option_map coded_of coded ≡ coding s operation

-- A line in its state, as the code holds it: what its bytes stand for, the address after it, that which `*` is, what it
-- defines, and whether it names an unknown CPU, has a form that the CPU has not, defines a name a second time, or
-- enters a segment past its start.
pub record Place : Type 0 where
  pub fragments : List Fragment
  pub next : ℕ
  pub here : Option ℕ
  pub defined : List Definition
  pub unknown_cpu : Bool
  pub no_form : Bool
  pub twice : Bool
  pub past_start : Bool

abbrev pub place_of : List Definition → Placed → Place
place_of above p = record {
  fragments = fragments_in p.coded;
  next = p.next;
  here = p.here;
  defined = definitions_in p.definition;
  unknown_cpu = p.has_unknown_cpu;
  no_form = is_none p.coded;
  twice = is_named_in above (definitions_in p.definition);
  past_start = p.is_past_start;
}

unfoldable pub place_in : State → SourceLine → Place
place_in s source = record {
  fragments = fragments_of s source;
  next = held (next_of s source);
  here = option_map held (here_in s.at (operation_in source));
  defined = held_definitions (defined_by s.at source);
  unknown_cpu = has_unknown_cpu (operation_in source);
  no_form = has_no_form s source;
  twice = is_named_in s.above (held_definitions (defined_by s.at source));
  past_start = is_past_start s (operation_in source);
}

-- none of a line that says nothing
abbrev pub line_in : State → Option SourceLine → Option Place
line_in s line = option_map (place_in s) line

-- the first of the tests of a line, by what its names and values have
abbrev pub fault_by : Fit → Place → Option AsmFaultKind
fault_by fit p = first_of (
    (UnknownCpu, p.unknown_cpu) ∷
    (NoSuchForm, p.no_form) ∷
    (Undefined, not fit.is_known) ∷
    (DefinedTwice, p.twice) ∷
    (OutOfRange, has_large p.defined || not fit.has_room) ∷
    (PastStart, p.past_start) ∷
    (PastEnd, nat_lt 65536 p.next) ∷ [])

-- the same by the definitions by which its operands have their values
abbrev pub fault_with : List Definition → Place → Option AsmFaultKind
fault_with names p = fault_by (record { is_known = are_known names p.fragments; has_room = list_all (fragment_fits names p.next) p.fragments }) p

-- the lowest fault of a line; `all` are the definitions of the whole text
unfoldable pub fault_at : List Definition → Option Place → Option AsmFaultKind
fault_at all None = Some Syntax
fault_at all (Some p) = fault_with (with_here p.here all) p

-- the bytes of a line that has no fault
unfoldable pub bytes_at : List Definition → Option Place → List ℕ
bytes_at all None = []
bytes_at all (Some p) = flat_map (fragment_bytes (with_here p.here all) p.next) p.fragments

-- what comes of line n, with what comes of the lines below it
abbrev pub line_then : List Definition → ℕ → Option Place → Result (List ℕ) AsmFault → Result (List ℕ) AsmFault
line_then all n line rest = unless n (fault_at all line) (with_front (bytes_at all line) rest)

-- ---- a line after the other

-- what stands below a line in its place
abbrev pub below_place : State → SourceLine → Place → State
below_place s source p = record { at = p.next; cpu = cpu_after s.cpu (operation_in source); above = s.above ++ p.defined; layout = s.layout }

unfoldable pub held_after : State → Option SourceLine → State
held_after s None = s
held_after s (Some source) = below_place s source (place_in s source)

-- below all lines
unfoldable pub held_final : State → List (Option SourceLine) → State
held_final s [] = s
held_final s (l ∷ ls) = held_final (held_after s l) ls

-- the bytes of the lines from the n-th on, or the first fault
unfoldable pub held_coded : List Definition → ℕ → State → List (Option SourceLine) → Result (List ℕ) AsmFault
held_coded all n s [] = Ok []
held_coded all n s (l ∷ ls) = line_then all n (line_in s l) (held_coded all (n + 1) (held_after s l) ls)
