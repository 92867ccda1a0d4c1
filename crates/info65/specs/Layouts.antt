-- The table of layouts: how the bytes of each type are cut into entries and lines, and what an entry is.
--
-- How many bytes an entry of a type has, how many entries a line takes at most, and what an entry is: a number of 1, 2
-- or 4 bytes, an address, an address less one, or a character. A line of numbers has at most 8 bytes.
use Rattle.std.specs.Prelude.{◌≡◌, ◌⊎◌, ◌*◌, ◌≤◌, ℕ}
use Rattle.info65.specs.Types.{Address, BigEndian, ByteOrder, Character, Instruction, Layout, LittleEndian, Number, RangeType, Return, Skipped}
use Rattle.info65.specs.declared.information.range.Entry.{Entry}
use Rattle.info65.specs.declared.information.range.RangeType.TheVariants as range_type

-- how many bytes an entry has, how many entries a line takes at most, and what an entry is
abbrev pub row : ℕ → ℕ → Entry → Layout
row unit per_line entry = record { unit = unit; per_line = per_line; entry = entry }

abbrev pub layout_of : RangeType → Layout
layout_of range_type.Code = row 1 1 Instruction
layout_of range_type.ByteTable = row 1 8 (Number LittleEndian)
layout_of range_type.WordTable = row 2 4 (Number LittleEndian)
layout_of range_type.DbyteTable = row 2 4 (Number BigEndian)
layout_of range_type.DwordTable = row 4 2 (Number LittleEndian)
layout_of range_type.AddrTable = row 2 1 Address
layout_of range_type.RtsTable = row 2 1 Return
layout_of range_type.TextTable = row 1 16 Character
layout_of range_type.Skip = row 1 1 Skipped

-- ---- the law

-- how many bytes a number has
abbrev pub IsNumber : ℕ → ByteOrder → Type 0
IsNumber unit order = (unit ≡ 1) ⊎ ((unit ≡ 2) ⊎ ((unit ≡ 4) × (order ≡ LittleEndian)))

-- A number has 1 or 2 bytes, or 4 with the low one first; an address has 2, and anything else 1. A line has at most 8
-- bytes of numbers, one address, and at most 16 characters.
abbrev pub IsEntry : ℕ → ℕ → Entry → Type 0
IsEntry unit per_line Instruction = (unit ≡ 1) × (per_line * unit ≤ 1)
IsEntry unit per_line (Number order) = IsNumber unit order × (per_line * unit ≤ 8)
IsEntry unit per_line Address = (unit ≡ 2) × (per_line * unit ≤ 2)
IsEntry unit per_line Return = (unit ≡ 2) × (per_line * unit ≤ 2)
IsEntry unit per_line Character = (unit ≡ 1) × (per_line * unit ≤ 16)
IsEntry unit per_line Skipped = (unit ≡ 1) × (per_line * unit ≤ 1)
