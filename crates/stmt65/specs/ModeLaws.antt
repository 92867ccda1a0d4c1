-- In which mode an instruction is coded. The modes of a form are those that are written like it; after `a:`
-- only the absolute one. Of a zero-page and an absolute mode that are written alike the operand's size decides,
-- if the mnemonic has both; every other mode is taken whatever the size, and an operand that only the zero page
-- has then needs zero-page size to fit.
use Rattle.std.specs.Prelude.{◌≡◌, ◌↔◌, ℕ, suc, Bool, true, false, List, [], ◌∷◌, Some, None, IsSome}
use Rattle.std.specs.List.{list_any}
use denote.Enum.Bare.{sameb}
use Rattle.stmt65.specs.Types.{Cpu, Direct, Mnemonic, Mode, Plain, Row}
use Rattle.isa65.specs.declared.row.Row.TheVariants as row
use Rattle.isa65.specs.Words.{IsZeroPageOf, encoded, len_of, row_of, table_of, written, zero_page_of}
use Rattle.isa65.specs.contracts.mode.Mode as mode
use Rattle.stmt65.specs.Forms.{form_text, has_prefix}
use Rattle.stmt65.specs.SourceLine.{Form, One, Two, Instr}
use Rattle.stmt65.specs.Symbols.{Definition}
use Rattle.stmt65.specs.Coding.{Fragment, Fixed, State, is_short, kind_fragment, Way, ways, coding, coding_len}

-- x is a mode of the form: it is written so, and if `a:` stands there, it is absolute with
-- a zero-page mode that is written alike
abbrev pub IsModeOf : Form → Mode → Type 0
IsModeOf form x = (written x ≡ form_text form) × (has_prefix form ≡ true → IsSome (zero_page_of x))

-- ---- the ways to code a form

-- a way is a mode of the form, and its operand has the length that goes with the mode
pub record IsWay (form : Form) (way : Way) : Type 0 where
  pub of_form : IsModeOf form way.0
  pub length : suc (coding_len way.1) ≡ len_of way.0

abbrev pub EachWay : (Way → Type 0) → List Way → Type 0
EachWay P [] = Unit {0}
EachWay P (way ∷ others) = P way × EachWay P others

-- Each way is a mode of the form.
abbrev pub WaysAreModes : Type 0
WaysAreModes = (short : Bool) (form : Form) → EachWay (IsWay form) (ways short form)

abbrev pub is_way : Mode → Way → Bool
is_way x way = sameb mode.the_type way.0 x

-- Each mode of the form is a way.
abbrev pub ModesAreWays : Type 0
ModesAreWays = (short : Bool) (form : Form) (x : Mode) → IsModeOf form x → list_any (is_way x) (ways short form) ≡ true

-- ---- the way that is taken

-- the mnemonic has the mode on the CPU
abbrev pub HasMode : Cpu → Mnemonic → Mode → Type 0
HasMode cpu m x = IsSome (encoded (table_of cpu) m x)

abbrev pub row_fragments : Bool → Form → Row → List Fragment
row_fragments short (One notation v) (row.One pattern kind) = kind_fragment short notation kind v ∷ []
row_fragments short (Two v w) (row.Two first second) = kind_fragment short (Plain Direct) first v ∷ kind_fragment short (Plain Direct) second w ∷ []
row_fragments short _ _ = []

-- what stands after the opcode in a mode, by the kinds of its row
abbrev pub mode_fragments : Bool → Form → Mode → List Fragment
mode_fragments short form m = row_fragments short form (row_of m)

-- The fragments are those of one mode of the form. If the mnemonic has a zero-page and an absolute mode that are
-- written so, it is the one of the operand's size.
pub record TakesMode (cpu : Cpu) (above : List Definition) (m : Mnemonic) (form : Form) (fragments : List Fragment) : Type 0 where
  pub mode : Mode
  pub opcode : ℕ
  pub of_form : IsModeOf form mode
  pub has : encoded (table_of cpu) m mode ≡ Some opcode
  pub coded : fragments ≡ Fixed opcode ∷ mode_fragments (is_short above form) form mode
  pub short : (y : Mode) → IsZeroPageOf mode y → IsModeOf form y → HasMode cpu m y → is_short above form ≡ true
  pub long : (z : Mode) → IsZeroPageOf z mode → IsModeOf form z → HasMode cpu m z → is_short above form ≡ false

abbrev pub TakesModes : Type 0
TakesModes = (s : State) (m : Mnemonic) (form : Form) (fragments : List Fragment)
    → coding s (Instr m form) ≡ Some fragments → TakesMode s.cpu s.above m form fragments

-- the mnemonic has no mode of the form
abbrev pub LacksForm : Cpu → Mnemonic → Form → Type 0
LacksForm cpu m form = (x : Mode) → IsModeOf form x → encoded (table_of cpu) m x ≡ None

-- An instruction has no coding exactly when the mnemonic has no mode of the form.
abbrev pub NeedsMode : Type 0
NeedsMode = (s : State) (m : Mnemonic) (form : Form) → (coding s (Instr m form) ≡ None) ↔ LacksForm s.cpu m form
