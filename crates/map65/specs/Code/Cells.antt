-- How a cell is packed: beside what `Cells` says of it, the bit above the name's says whether a
-- segment border stands before the address.
use Rattle.std.specs.Prelude.{◌≡◌, ◌==◌, ◌+◌, ◌*◌, ◌/◌, ◌%◌, ◌<◌, ◌&&◌, not, ℕ, Bool, false, List, length, slice_index, Option, Some, None, if◌then◌else◌}
use Rattle.info65.specs.Words.{SegmentView}
use Rattle.map65.specs.Types.{RangeType}
use Rattle.info65.specs.declared.information.range.RangeType.TheVariants as role
use Rattle.map65.specs.Cells.{bit, code_of}
use Rattle.map65.specs.Items.{item_len}
use Rattle.map65.specs.MapView.{IsSoundMap, MapView}
use Rattle.map65.specs.Names.{has_name}
use Rattle.map65.specs.Roles.{is_wide, role_at}
use Rattle.map65.specs.Segments.{is_border}

-- ---- one cell

-- the role that has the code
unfoldable pub coded : ℕ → Option RangeType
coded n =
    if n == 1 then Some role.Code
    else (if n == 2 then Some role.ByteTable
    else (if n == 3 then Some role.WordTable
    else (if n == 4 then Some role.DbyteTable
    else (if n == 5 then Some role.AddrTable
    else (if n == 6 then Some role.RtsTable
    else (if n == 7 then Some role.TextTable
    else (if n == 8 then Some role.Skip
    else (if n == 9 then Some role.DwordTable
    else None))))))))

-- The cell of a role and an item's length: the role's code in the lowest four bits, the length
-- in the next three, and 0 in the others.
unfoldable pub cell_of : Option RangeType → ℕ → ℕ
cell_of r n = code_of r + 16 * n

-- the role that a cell holds
unfoldable pub role_in_cell : ℕ → Option RangeType
role_in_cell c = coded (c % 16)

-- the length of an item that a cell holds
unfoldable pub len_in_cell : ℕ → ℕ
len_in_cell c = c / 16 % 8

-- whether a role is a table whose entries have more than one byte
abbrev pub is_wide_role : Option RangeType → Bool
is_wide_role None = false
is_wide_role (Some r) = is_wide r

abbrev pub is_wide_cell : ℕ → Bool
is_wide_cell c = is_wide_role (role_in_cell c)

-- the cell with the length of an item, which it did not have
unfoldable pub with_len : ℕ → ℕ → ℕ
with_len c n = c + 16 * n

-- a cell has its bit for a name
unfoldable pub is_named : ℕ → Bool
is_named c = c / 128 % 2 == 1

-- the cell with its bit for a name
unfoldable pub with_name : ℕ → ℕ
with_name c = c / 256 * 256 + 128 + c % 128

-- a cell has its bit for a segment border before the address
unfoldable pub has_border : ℕ → Bool
has_border c = c / 256 % 2 == 1

-- the cell with its bit for a border
unfoldable pub with_border : ℕ → ℕ
with_border c = c % 256 + 256

-- the address of the second cell lies in the run of the address before it, which is that of the first
unfoldable pub are_one_run : ℕ → ℕ → Bool
are_one_run c d = c % 16 == d % 16 && (not (d % 16 == 0) && not (has_border d))

-- while items are marked, the bit for a name says that a given name has the address as its own; in a table whose
-- entries have more than one byte it then cuts the run
abbrev pub is_cut : ℕ → Bool
is_cut c = is_named c && is_wide_cell c

-- ---- all cells

-- the role of the address, and the length of the item that begins there
abbrev pub lay_at : MapView → ℕ → ℕ
lay_at m a = cell_of (role_at m a) (item_len m a)

-- the bits above the name's say where borders stand
pub record HasBorders (segments : List SegmentView) (cells : List ℕ) : Type 0 where
  pub each : (a : ℕ) → a < 65536 → slice_index cells a / 256 ≡ bit (is_border segments a)

-- the lower seven bits of each cell hold the role and the length, and those above the name's the border
pub record IsLaid (m : MapView) (cells : List ℕ) : Type 0 where
  pub count : length cells ≡ 65536
  pub each : (a : ℕ) → a < 65536 → slice_index cells a % 128 ≡ lay_at m a
  pub borders : HasBorders m.info.segments cells

-- the bit for a name holds the result of a test in each cell
pub record AreNamed (test : ℕ → Bool) (cells : List ℕ) : Type 0 where
  pub each : (a : ℕ) → a < 65536 → slice_index cells a / 128 % 2 ≡ bit (test a)

abbrev pub nowhere : ℕ → Bool
nowhere a = false

-- the cells of a map: role, length, border, and whether the address has a name
pub record AreCells (m : MapView) (cells : List ℕ) : Type 0 where
  pub laid : IsLaid m cells
  pub named : AreNamed (has_name m) cells

-- a map that was built, with its cells
pub record IsBuilt (m : MapView) (cells : List ℕ) : Type 0 where
  pub sound : IsSoundMap m
  pub are_cells : AreCells m cells
