-- The cells of a map, one for each address from $0000 to $FFFF. In the cell c of an address
--
-- | value         | what it says                                                                  |
-- |---------------|-------------------------------------------------------------------------------|
-- | c mod 16      | the code of the address's role; 0 outside the image                           |
-- | c / 16 mod 8  | the length of the item that begins at the address; 0 if none does             |
-- | c / 128 mod 2 | 1 if the address has a name, else 0                                           |
--
-- The higher bits say nothing to a caller.
use Rattle.std.specs.Prelude.{◌≡◌, ◌/◌, ◌%◌, ◌<◌, ℕ, Bool, true, false, List, length, slice_index, Option, Some, None}
use Rattle.map65.specs.Types.{RangeType}
use Rattle.info65.specs.declared.information.range.RangeType.TheVariants as role
use Rattle.map65.specs.Items.{item_len}
use Rattle.map65.specs.MapView.{MapView}
use Rattle.map65.specs.Names.{has_name}
use Rattle.map65.specs.Roles.{role_at}

-- the code of a role; an address outside the image has none
unfoldable pub code_of : Option RangeType → ℕ
code_of None = 0
code_of (Some role.Code) = 1
code_of (Some role.ByteTable) = 2
code_of (Some role.WordTable) = 3
code_of (Some role.DbyteTable) = 4
code_of (Some role.AddrTable) = 5
code_of (Some role.RtsTable) = 6
code_of (Some role.TextTable) = 7
code_of (Some role.Skip) = 8
code_of (Some role.DwordTable) = 9

-- 1 for true, 0 for false
abbrev pub bit : Bool → ℕ
bit false = 0
bit true = 1

-- what a cell says of its address
pub record Describes (m : MapView) (a cell : ℕ) : Type 0 where
  pub role : cell % 16 ≡ code_of (role_at m a)
  pub len : cell / 16 % 8 ≡ item_len m a
  pub named : cell / 128 % 2 ≡ bit (has_name m a)

-- There is a cell for each address, in order, and it describes that address.
pub record AreCellsOf (m : MapView) (cells : List ℕ) : Type 0 where
  pub count : length cells ≡ 65536
  pub each : (a : ℕ) → a < 65536 → Describes m a (slice_index cells a)
