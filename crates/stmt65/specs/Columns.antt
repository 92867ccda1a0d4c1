-- The columns of a listing, and which labels stand on the line of their statement.
--
-- A label stands on the line of its statement if its name has at most as many bytes as the label break and ends before
-- the mnemonic column; any other label has a line of its own.
use Rattle.std.specs.Prelude.{◌&&◌, ◌+◌, Bool, List, length, nat_le, nat_lt, ℕ}
use Rattle.stmt65.specs.Types.{Columns}

-- those of a listing whose options say nothing of them
abbrev pub default_columns : Columns
default_columns = record { mnemonic = 9; argument = 17; comment = 49; text = 81; label_break = 7 }

-- The name has at most as many bytes as the label break, and their number plus 1 is below the mnemonic column.
abbrev pub fits_label : Columns → List ℕ → Bool
fits_label c name = nat_le (length name) c.label_break && nat_lt (length name + 1) c.mnemonic
