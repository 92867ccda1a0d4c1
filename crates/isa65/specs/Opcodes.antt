-- Tables of opcodes, and look-ups in them.
--
-- A table is a list of entries, each an opcode, a mnemonic and an addressing mode. It is written as data sheets
-- print it, rows of mnemonics below columns of modes, with `none` in a cell that has no opcode, so that it can
-- be checked against a data sheet by eye.
use Rattle.std.specs.Prelude.{◌≡◌, ◌⊎◌, ℕ, ◌==◌, ◌&&◌, List, [], ◌∷◌, ◌++◌, Option, Some, None, IsSome, is_some, if◌then◌else◌, option_and_then}
use denote.Enum.Bare.{sameb}
use Rattle.isa65.specs.Mode.{IsZeroPageOf, written, zero_page_of}
use Rattle.isa65.specs.contracts.mnemonic.Mnemonic as mnemonic
use Rattle.isa65.specs.contracts.mode.Mode as mode
use Rattle.isa65.specs.Types.{Mnemonic, Mode, Op}

-- an opcode, and what it stands for
abbrev pub Entry : Type 0
Entry = ℕ × Mnemonic × Mode

abbrev pub Table : Type 0
Table = List Entry

-- ---- tables as they are published

-- a cell with no opcode
abbrev pub none : ℕ
none = 256

-- a mnemonic and its opcodes, one for each column
abbrev pub in_row : Mnemonic → List Mode → List ℕ → Table
in_row m [] cells = []
in_row m (x ∷ columns) [] = []
in_row m (x ∷ columns) (b ∷ cells) = if b == none then in_row m columns cells else (b, m, x) ∷ in_row m columns cells

-- rows of mnemonics below columns of modes
abbrev pub in_columns : List Mode → List (Mnemonic × List ℕ) → Table
in_columns columns [] = []
in_columns columns (row ∷ rows) = in_row row.0 columns row.1 ++ in_columns columns rows

-- mnemonics of one mode
abbrev pub in_mode : Mode → List (Mnemonic × ℕ) → Table
in_mode x [] = []
in_mode x (row ∷ rows) = (row.1, row.0, x) ∷ in_mode x rows

-- ---- look-ups

-- the entry is one of the table
abbrev pub InTable : Entry → Table → Type 0
InTable e [] = ⊥
InTable e (x ∷ t) = (x ≡ e) ⊎ InTable e t

-- what an opcode stands for
abbrev pub decoded : Table → ℕ → Option Op
decoded [] b = None
decoded (e ∷ t) b = if e.0 == b then Some (record { mnemonic = e.1; mode = e.2 }) else decoded t b

-- the opcode of a mnemonic in a mode
abbrev pub encoded : Table → Mnemonic → Mode → Option ℕ
encoded [] m x = None
encoded (e ∷ t) m x = if sameb mnemonic.the_type e.1 m && sameb mode.the_type e.2 x then Some e.0 else encoded t m x

-- of two modes that are written alike, a mnemonic has both only if they differ in the size of their operand alone
abbrev pub DifferInSize : Table → Type 0
DifferInSize t = (m : Mnemonic) (x y : Mode) → IsSome (encoded t m x) → IsSome (encoded t m y) → written x ≡ written y
    → (x ≡ y) ⊎ (IsZeroPageOf x y ⊎ IsZeroPageOf y x)

-- the zero-page mode that is written like this absolute one, if the mnemonic has it
abbrev pub sibling_in : Table → Op → Option Mode
sibling_in t op = option_and_then (λ x. if is_some (encoded t op.mnemonic x) then Some x else None) (zero_page_of op.mode)
