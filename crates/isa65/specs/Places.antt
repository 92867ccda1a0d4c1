-- A cell for each mnemonic in each mode.
use Rattle.std.specs.Prelude.{ℕ, ◌+◌, ◌*◌, List, Option, Some, None, slice_set}
use denote.Enum.Declared.{tag_of}
use Rattle.isa65.specs.contracts.mnemonic.Mnemonic as mnemonic
use Rattle.isa65.specs.contracts.mode.Mode as mode
use Rattle.isa65.specs.Types.{Mnemonic, Mode, Op}

-- sixteen for each mnemonic, in the order in which mnemonics and modes are declared
abbrev pub place_of : Mnemonic → Mode → ℕ
place_of m x = tag_of mnemonic.the_type m * 16 + tag_of mode.the_type x

-- the cells with an opcode in the one of what it stands for
abbrev pub with_code : List (Option ℕ) → ℕ → Option Op → List (Option ℕ)
with_code codes b None = codes
with_code codes b (Some op) = slice_set codes (place_of op.mnemonic op.mode) (Some b)
