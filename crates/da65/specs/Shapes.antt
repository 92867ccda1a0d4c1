-- What the bytes of a group can be.
use Rattle.std.specs.Prelude.{◌≡◌, ◌⊎◌, ℕ, ◌*◌, ◌%◌, ◌≤◌, List, length}
use Rattle.isa65.specs.Words.{Table}
use Rattle.info65.specs.Words.{layout_of}
use Rattle.info65.specs.declared.information.range.Entry.{Entry}
use Rattle.da65.specs.Types.{Address, Character, Instruction, Number, RangeType, Return, Skipped}
use Rattle.da65.specs.Instructions.{instruction_in}
use Rattle.map65.specs.Words.{code_size}

-- a leftover byte, or whole entries, as many as a line takes
abbrev pub AreEntries : ℕ → ℕ → List ℕ → Type 0
AreEntries unit per_line bytes = (length bytes ≡ 1) ⊎ ((length bytes % unit ≡ 0) × (length bytes ≤ per_line * unit))

-- one item of code, or a line of a table
abbrev pub IsLineOf : Table → ℕ → ℕ → Entry → List ℕ → Type 0
IsLineOf t unit per_line Instruction bytes = code_size (instruction_in t bytes) ≡ length bytes
IsLineOf t unit per_line (Number order) bytes = AreEntries unit per_line bytes
IsLineOf t unit per_line Address bytes = AreEntries unit per_line bytes
IsLineOf t unit per_line Return bytes = AreEntries unit per_line bytes
IsLineOf t unit per_line Character bytes = AreEntries unit per_line bytes
IsLineOf t unit per_line Skipped bytes = ⊥

-- bytes that a group of this role can have
abbrev pub IsGroupOf : Table → RangeType → List ℕ → Type 0
IsGroupOf t r bytes = IsLineOf t (layout_of r).unit (layout_of r).per_line (layout_of r).entry bytes
