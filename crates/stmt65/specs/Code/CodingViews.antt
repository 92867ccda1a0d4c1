-- What the fragments of a statement stand for.
use Rattle.std.specs.Prelude.{◌≡◌, ℕ, Bool, List, [], ◌∷◌, ◌++◌, length, map, take, Option, Result, IfOk}
use Rattle.std.specs.declared.vec.Vec.{Vec}
use Rattle.std.specs.Option.{option_map}
use Rattle.std.specs.Bool.{OnTrue, OnFalse}
use Rattle.std.specs.List.{flat_map, list_all}
use Rattle.stmt65.specs.declared.assembling.coding.Fragment.{Fragment as CodeFragment}
use Rattle.stmt65.specs.declared.assembling.coding.Fragment.TheVariants as code_fragment
use Rattle.stmt65.specs.declared.assembling.coding.Coder.{Coder}
use Rattle.stmt65.specs.Types.{Coded as CodeCoded, Directive, Fit, Instruction as CodeInstruction, Operand as CodeOperand}
use Rattle.stmt65.specs.declared.assembling.coding.Operand.TheVariants as code_operand
use Rattle.stmt65.specs.declared.assembling.coding.Coded.TheVariants as code_coded
use Rattle.stmt65.specs.declared.source_line.Value.{Value as CodeValue}
use Rattle.stmt65.specs.declared.source_line.Datum.{Datum as CodeDatum}
use Rattle.stmt65.specs.Coding.{Fragment, Fixed, Single, ZeroPage, Oversized, Entry, Distance, HalfOf, Fill, Way, are_known, datum_fragments, is_short, ways, first_way, fragment_fits, fragment_bytes}
use Rattle.stmt65.specs.SourceLine.{Form}
use Rattle.stmt65.specs.Symbols.{Definition}
use Rattle.stmt65.specs.Code.SourceLineViews.{numeral_of, value_of, datum_of}

abbrev pub fragment_of : CodeFragment → Fragment
fragment_of (code_fragment.Single v) = Single (value_of v.now)
fragment_of (code_fragment.ZeroPage v) = ZeroPage (value_of v.now)
fragment_of (code_fragment.Oversized v) = Oversized (value_of v.now)
fragment_of (code_fragment.Entry d v) = Entry d (value_of v.now)
fragment_of (code_fragment.Distance v) = Distance (value_of v.now)
fragment_of (code_fragment.Half half v) = HalfOf half (value_of v.now)
fragment_of (code_fragment.Reserved n v) = Fill (numeral_of n.now) (numeral_of v.now)
fragment_of (code_fragment.Gap n b) = Fill n b

abbrev pub operand_of : CodeOperand → List Fragment
operand_of code_operand.None = []
operand_of (code_operand.One f) = fragment_of f ∷ []
operand_of (code_operand.Two f g) = fragment_of f ∷ fragment_of g ∷ []

abbrev pub instruction_of : CodeInstruction → List Fragment
instruction_of i = Fixed i.opcode ∷ operand_of i.operand

abbrev pub data_fragments : List CodeDatum → List Fragment
data_fragments ds = flat_map datum_fragments (map datum_of ds)

abbrev pub entry_fragments : Directive → List CodeValue → List Fragment
entry_fragments d vs = map (Entry d) (map value_of vs)

abbrev pub coded_of : CodeCoded → List Fragment
coded_of code_coded.Nothing = []
coded_of (code_coded.Instruction i) = instruction_of i
coded_of (code_coded.Fill f) = fragment_of f ∷ []
coded_of (code_coded.Data ds) = data_fragments ds.now
coded_of (code_coded.Values d vs) = entry_fragments d vs.now

-- the instruction is that of the first of these ways whose mode the mnemonic has on the CPU
abbrev pub IsFirstWay : {A : Type 0} → Option CodeInstruction → Coder A → List Way → Type 0
IsFirstWay found coder ws = option_map instruction_of found ≡ first_way coder.opcodes.now coder.mnemonic ws

-- the same of the ways of a form
abbrev pub IsFirstOf : {A : Type 0} → Option CodeInstruction → Coder A → Form → Type 0
IsFirstOf found coder form = IsFirstWay found coder (ways (is_short coder.above.now form) form)

-- Bytes are added, if the values that they stand for have room; the answer says whether they have. Else nothing is.
pub record Puts (answer fits : Bool) (bytes old new : List ℕ) : Type 0 where
  pub says : answer ≡ fits
  pub adds : OnTrue answer (new ≡ old ++ bytes)
  pub leaves : OnFalse answer (new ≡ old)

-- the same of what a function answers, unless it is out of memory
abbrev pub Adds : {A E : Type 0} → Result Bool E → Bool → List ℕ → Vec ℕ A → Vec ℕ A → Type 0
Adds result fits bytes old new = IfOk result (λ answer. Puts answer fits bytes old.items new.items)

-- the same of a fragment, with the address after the statement
abbrev pub AddsOne : {A E : Type 0} → Result Bool E → List Definition → ℕ → Fragment → Vec ℕ A → Vec ℕ A → Type 0
AddsOne result all next f old new = Adds result (fragment_fits all next f) (fragment_bytes all next f) old new

-- whether the names of fragments have definitions, and their values room
pub record IsFit (fit : Fit) (all : List Definition) (next : ℕ) (fs : List Fragment) : Type 0 where
  pub known : fit.is_known ≡ are_known all fs
  pub room : fit.has_room ≡ list_all (fragment_fits all next) fs

-- The bytes of fragments are added if all of their values have room. What stood there before them is kept.
pub record PutsAll (fit : Fit) (all : List Definition) (next : ℕ) (fs : List Fragment) (old new : List ℕ) : Type 0 where
  pub fits : IsFit fit all next fs
  pub adds : OnTrue fit.has_room (new ≡ old ++ flat_map (fragment_bytes all next) fs)
  pub keeps : take (length old) new ≡ old

abbrev pub Emits : {A E : Type 0} → Result Fit E → List Definition → ℕ → List Fragment → Vec ℕ A → Vec ℕ A → Type 0
Emits result all next fs old new = IfOk result (λ fit. PutsAll fit all next fs old.items new.items)
