-- The cells of a map whose addresses have no name.
use Rattle.std.specs.Prelude.{◌/◌, ◌%◌, ◌==◌, ℕ, Bool, List}
use Rattle.std.specs.List.{prefix_len}

-- the address of the cell has no name
abbrev pub is_unnamed : ℕ → Bool
is_unnamed cell = cell / 128 % 2 == 0

-- how many of these stand before the first whose address has one
abbrev pub unnamed_len : List ℕ → ℕ
unnamed_len cells = prefix_len is_unnamed cells
