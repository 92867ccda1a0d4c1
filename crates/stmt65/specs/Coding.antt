-- How a statement is coded, as a list of fragments: what each byte of it stands for.
--
-- A fragment is a fixed byte, a value from 0 to $FF, a zero-page address, a number as a directive gives it, a signed
-- distance, half of a word, or a number of equal bytes, as `.res` gives and as is missing before a segment.
-- `modes_in` is the table of the notations of an expression: for each, the modes that are written so, in the order
-- in which they are tried; the first one that the mnemonic has on the CPU is taken. The coding depends on the CPU,
-- the earlier lines and the written form alone. It shares no definition with the printing of a statement, so that
-- the law of reassembly compares two readings.
use Rattle.std.specs.Prelude.{ℕ, ◌+◌, ◌-◌, ◌/◌, ◌%◌, Bool, true, false, ◌&&◌, List, [], ◌∷◌, length, map, replicate, nat_le, nat_lt, if◌then◌else◌, Option, Some, None, is_some, unwrap_or}
use Rattle.std.specs.List.{flat_map, list_all}
use Rattle.stmt65.specs.Types.{Abs, Absindx, Absx, Absy, Acc, Addr, Cpu, Dbyt, Directive, Dword, High, Imm, Imp, Ind, Indx, Indy, Low, Mnemonic, Mode, Notation, OperandKind, Rel, Zp, Zpind, Zprel, Zpx, Zpy}
use Rattle.isa65.specs.Words.{encoded, table_of}
use Rattle.isa65.specs.declared.row.OperandKind.TheVariants as kind
use Rattle.isa65.specs.declared.row.Pattern.TheVariants as pattern
use Rattle.stmt65.specs.SourceLine.{Value, NumberValue, Form, Empty, Accumulator, One, Two, Datum, NumberDatum, StringDatum, ValueDatum, HalfDatum, Operation, Nothing, Instr, Data, Values, Reserve, Segment, Code, SetCpu}
use Rattle.stmt65.specs.declared.source_line.Half.{Half}
use Rattle.stmt65.specs.Layout.{Layout, start_of}
use Rattle.stmt65.specs.declared.source_line.Notation.TheVariants as notation
use Rattle.stmt65.specs.declared.directive.Directive.TheVariants.{Word}
use Rattle.stmt65.specs.Symbols.{Definition, value_in, is_known, below, word_in, byte_in, has_zero_page_size}

-- ---- numbers

-- the low byte
abbrev pub low : ℕ → ℕ
low n = n % 256

-- the bytes of a number that a directive gives
abbrev pub entry_bytes : Directive → ℕ → List ℕ
entry_bytes Word n = low n ∷ low (n / 0x100) ∷ []
entry_bytes Dbyt n = low (n / 0x100) ∷ low n ∷ []
entry_bytes Addr n = low n ∷ low (n / 0x100) ∷ []
entry_bytes Dword n = low n ∷ low (n / 0x100) ∷ low (n / 0x10000) ∷ low (n / 0x1000000) ∷ []

-- the first number that it has no room for
abbrev pub entry_limit : Directive → ℕ
entry_limit Word = 0x10000
entry_limit Dbyt = 0x10000
entry_limit Addr = 0x10000
entry_limit Dword = 0x100000000

-- ---- fragments

pub data Fragment : Type 0 where
  -- a byte that the line itself gives: an opcode, or a byte of a string
  Fixed : ℕ → Fragment
  -- a value from 0 to $FF
  Single : Value → Fragment
  -- a zero-page address
  ZeroPage : Value → Fragment
  -- the operand of a zero-page mode that has not zero-page size, so it never fits
  Oversized : Value → Fragment
  -- a number as a directive gives it
  Entry : Directive → Value → Fragment
  -- a word, as its signed distance from the address after the statement
  Distance : Value → Fragment
  -- the low or the high byte of a word
  HalfOf : Half → Value → Fragment
  -- so many bytes of one value
  Fill : ℕ → ℕ → Fragment

abbrev pub fragment_len : Fragment → ℕ
fragment_len (Fixed b) = 1
fragment_len (Single v) = 1
fragment_len (ZeroPage v) = 1
fragment_len (Oversized v) = 1
fragment_len (Entry d v) = length (entry_bytes d 0)
fragment_len (Distance v) = 1
fragment_len (HalfOf half v) = 1
fragment_len (Fill n b) = n

-- whether each name in it has a definition
abbrev pub is_fragment_known : List Definition → Fragment → Bool
is_fragment_known all (Fixed b) = true
is_fragment_known all (Single v) = is_known all v
is_fragment_known all (ZeroPage v) = is_known all v
is_fragment_known all (Oversized v) = is_known all v
is_fragment_known all (Entry d v) = is_known all v
is_fragment_known all (Distance v) = is_known all v
is_fragment_known all (HalfOf half v) = is_known all v
is_fragment_known all (Fill n b) = true

abbrev pub are_known : List Definition → List Fragment → Bool
are_known all fs = list_all (is_fragment_known all) fs

-- from 128 below the address `next` to 127 above it
abbrev pub is_near : ℕ → Option ℕ → Bool
is_near next None = false
is_near next (Some n) = nat_le next (n + 128) && nat_le n (next + 127)

-- the value if an entry of the directive has room for it
unfoldable pub entry_in : List Definition → Directive → Value → Option ℕ
entry_in all d v = below (entry_limit d) (value_in all v)

-- whether its value has room; `next` is the address after the statement
unfoldable pub fragment_fits : List Definition → ℕ → Fragment → Bool
fragment_fits all next (Fixed b) = true
fragment_fits all next (Single v) = is_some (byte_in all v)
fragment_fits all next (ZeroPage v) = is_some (byte_in all v)
fragment_fits all next (Oversized v) = false
fragment_fits all next (Entry d v) = is_some (entry_in all d v)
fragment_fits all next (Distance v) = is_near next (word_in all v)
fragment_fits all next (HalfOf half v) = is_some (word_in all v)
fragment_fits all next (Fill n b) = nat_lt n 65536 && nat_lt b 256

-- the value of a fragment that has room for it
abbrev pub or_zero : Option ℕ → ℕ
or_zero value = unwrap_or value 0

-- the signed distance from `next` as a byte
abbrev pub distance : ℕ → ℕ → ℕ
distance next n = low (n + 256 - next)

-- the low or the high byte of a word
abbrev pub half_of : Half → ℕ → ℕ
half_of Low n = low n
half_of High n = n / 0x100

-- the bytes of a fragment that has room for its value
unfoldable pub fragment_bytes : List Definition → ℕ → Fragment → List ℕ
fragment_bytes all next (Fixed b) = b ∷ []
fragment_bytes all next (Single v) = low (or_zero (word_in all v)) ∷ []
fragment_bytes all next (ZeroPage v) = low (or_zero (word_in all v)) ∷ []
fragment_bytes all next (Oversized v) = low (or_zero (word_in all v)) ∷ []
fragment_bytes all next (Entry d v) = entry_bytes d (or_zero (entry_in all d v))
fragment_bytes all next (Distance v) = distance next (or_zero (word_in all v)) ∷ []
fragment_bytes all next (HalfOf half v) = half_of half (or_zero (word_in all v)) ∷ []
fragment_bytes all next (Fill n b) = replicate n (low b)

-- ---- instructions

-- whether the first expression of an operand has zero-page size
abbrev pub is_short : List Definition → Form → Bool
is_short above (One notation v) = has_zero_page_size above v
is_short above (Two v w) = has_zero_page_size above v
is_short above _ = false

-- an operand of 16 bits, as `.addr` gives it
abbrev pub word_operand : Value → Fragment
word_operand v = Entry Addr v

-- an operand that only the zero page has; `short` says whether it has that size
abbrev pub zero_page : Bool → Value → Fragment
zero_page short v = if short then ZeroPage v else Oversized v

-- The modes of a notation, each with the kind of its operand, in the order in which they are tried: of a zero-page and
-- an absolute mode that differ in size alone the one of the operand's size goes first.
abbrev pub modes_in : Bool → Notation → List (Mode × OperandKind)
modes_in short (notation.Plain pattern.Immediate) = (Imm, kind.Byte) ∷ []
modes_in short (notation.Half half) = (Imm, kind.Byte) ∷ []
modes_in short (notation.Plain pattern.Direct) = if short then (Zp, kind.ZeroPage) ∷ (Abs, kind.Word) ∷ (Rel, kind.Distance) ∷ [] else (Abs, kind.Word) ∷ (Zp, kind.ZeroPage) ∷ (Rel, kind.Distance) ∷ []
modes_in short (notation.Plain pattern.DirectX) = if short then (Zpx, kind.ZeroPage) ∷ (Absx, kind.Word) ∷ [] else (Absx, kind.Word) ∷ (Zpx, kind.ZeroPage) ∷ []
modes_in short (notation.Plain pattern.DirectY) = if short then (Zpy, kind.ZeroPage) ∷ (Absy, kind.Word) ∷ [] else (Absy, kind.Word) ∷ (Zpy, kind.ZeroPage) ∷ []
modes_in short notation.Absolute = (Abs, kind.Word) ∷ []
modes_in short notation.AbsoluteX = (Absx, kind.Word) ∷ []
modes_in short notation.AbsoluteY = (Absy, kind.Word) ∷ []
modes_in short (notation.Plain pattern.Indirect) = (Zpind, kind.ZeroPage) ∷ (Ind, kind.Word) ∷ []
modes_in short (notation.Plain pattern.IndirectX) = (Indx, kind.ZeroPage) ∷ (Absindx, kind.Word) ∷ []
modes_in short (notation.Plain pattern.IndirectY) = (Indy, kind.ZeroPage) ∷ []

-- a byte, or with `<` or `>` before it a half
abbrev pub byte_fragment : Notation → Value → Fragment
byte_fragment (notation.Half half) v = HalfOf half v
byte_fragment notation v = Single v

-- what an operand of a kind is coded as
abbrev pub kind_fragment : Bool → Notation → OperandKind → Value → Fragment
kind_fragment short notation kind.Byte v = byte_fragment notation v
kind_fragment short notation kind.ZeroPage v = zero_page short v
kind_fragment short notation kind.Word v = word_operand v
kind_fragment short notation kind.Distance v = Distance v

-- a way to code an operand: a mode, and the fragments after the opcode
abbrev pub Way : Type 0
Way = Mode × List Fragment

abbrev pub way_in : Bool → Notation → Value → Mode × OperandKind → Way
way_in short notation v mode = (mode.0, kind_fragment short notation mode.1 v ∷ [])

-- the ways of a form, in the order in which they are tried
unfoldable pub ways : Bool → Form → List Way
ways short Empty = (Imp, []) ∷ []
ways short Accumulator = (Acc, []) ∷ []
ways short (One notation v) = map (way_in short notation v) (modes_in short notation)
ways short (Two v w) = (Zprel, zero_page short v ∷ Distance w ∷ []) ∷ []

-- with the opcode in front, or else what the other ways give
abbrev pub coded_so : Option ℕ → List Fragment → Option (List Fragment) → Option (List Fragment)
coded_so None fragments others = others
coded_so (Some b) fragments others = Some (Fixed b ∷ fragments)

-- the first way whose mode the mnemonic has on the CPU
abbrev pub first_way : Cpu → Mnemonic → List Way → Option (List Fragment)
first_way cpu m [] = None
first_way cpu m (w ∷ ws) = coded_so (encoded (table_of cpu) m w.0) w.1 (first_way cpu m ws)

-- ---- data

abbrev pub datum_fragments : Datum → List Fragment
datum_fragments (NumberDatum n) = Single (NumberValue n) ∷ []
datum_fragments (StringDatum bs) = map Fixed bs
datum_fragments (ValueDatum v) = Single v ∷ []
datum_fragments (HalfDatum half v) = HalfOf half v ∷ []

-- ---- operations

-- what stands above a line: its address, the CPU, the definitions in their order, and where segments begin
pub record State : Type 0 where
  pub at : ℕ
  pub cpu : Cpu
  pub above : List Definition
  pub layout : Layout

-- what is missing before a segment's start
abbrev pub gap : Layout → ℕ → Option ℕ → List Fragment
gap layout at None = []
gap layout at (Some start) = Fill (start - at) layout.fill ∷ []

-- the coding of an operation, or none if a mnemonic has no mode of the written form
unfoldable pub coding : State → Operation → Option (List Fragment)
coding s Nothing = Some []
coding s (Instr m form) = first_way s.cpu m (ways (is_short s.above form) form)
coding s (Data ds) = Some (flat_map datum_fragments ds)
coding s (Values d vs) = Some (map (Entry d) vs)
coding s (Reserve n b) = Some (Fill n b ∷ [])
coding s (Segment name) = Some (gap s.layout s.at (start_of s.layout name))
coding s Code = Some []
coding s (SetCpu text) = Some []

-- how many bytes a coding has
unfoldable pub coding_len : List Fragment → ℕ
coding_len [] = 0
coding_len (f ∷ fs) = fragment_len f + coding_len fs
