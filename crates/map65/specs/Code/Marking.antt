-- Cells while they are written: first the roles, range by range, then the borders, segment by segment, then the
-- lengths, item by item, and the names.
use Rattle.std.specs.Prelude.{◌≡◌, ◌-◌, ◌/◌, ◌%◌, ◌<◌, ◌≤◌, ◌&&◌, not, ℕ, Bool, true, false, nat_le, nat_lt, List, length, slice_index, take, Option, Some, None, is_some, if◌then◌else◌}
use Rattle.std.specs.List.{list_any}
use Rattle.info65.specs.Words.{NameView, covering, covers, name_at}
use Rattle.map65.specs.Types.{RangeSpec, RangeType}
use Rattle.map65.specs.ImageView.{ImageView, is_inside}
use Rattle.map65.specs.MapView.{MapView}
use Rattle.map65.specs.Names.{refers}
use Rattle.map65.specs.Roles.{role_at, role_in}
use Rattle.map65.specs.Spans.{addresses}
use Rattle.map65.specs.Code.Cells.{HasBorders, are_one_run, cell_of, is_cut, lay_at}

-- f of the cell, if the test holds
abbrev pub changed : (ℕ → ℕ) → Bool → ℕ → ℕ
changed f true c = f c
changed f false c = c

-- each cell for whose address the test holds becomes f of what it was, and the others stay
pub record Changes (f : ℕ → ℕ) (test : ℕ → Bool) (old new : List ℕ) : Type 0 where
  pub count : length new ≡ 65536
  pub each : (a : ℕ) → a < 65536 → slice_index new a ≡ changed f (test a) (slice_index old a)

-- the address lies from `from` to before `to`
abbrev pub is_within : ℕ → ℕ → ℕ → Bool
is_within from to a = nat_le from a && nat_lt a to

-- ---- roles and lengths

-- the cell of a role, whatever it was before
abbrev pub painted : RangeType → ℕ → ℕ
painted r c = cell_of (Some r) 0

-- the role of an address by some of the ranges alone
unfoldable pub role_by : ImageView → List RangeSpec → ℕ → Option RangeType
role_by image ranges a = if is_inside image a then Some (role_in ranges a) else None

pub record ArePainted (image : ImageView) (ranges : List RangeSpec) (cells : List ℕ) : Type 0 where
  pub count : length cells ≡ 65536
  pub each : (a : ℕ) → a < 65536 → slice_index cells a ≡ cell_of (role_by image ranges a) 0

-- the lower seven bits of all cells hold the role, those of the cells below an address the
-- length too, and the highest the border
pub record AreMarkedBelow (m : MapView) (at : ℕ) (cells : List ℕ) : Type 0 where
  pub count : length cells ≡ 65536
  pub marked : (a : ℕ) → a < 65536 → a < at → slice_index cells a % 128 ≡ lay_at m a
  pub plain : (a : ℕ) → a < 65536 → at ≤ a → slice_index cells a % 128 ≡ cell_of (role_at m a) 0
  pub borders : HasBorders m.info.segments cells

-- the address lies in the piece of the one before it, by their cells
unfoldable pub is_joined_in : List ℕ → ℕ → Bool
is_joined_in cells a = nat_lt a (length cells) && (are_one_run (slice_index cells (a - 1)) (slice_index cells a) && not (is_cut (slice_index cells a)))

-- ---- names

-- all bits but those for names stay
pub record KeepsLay (old new : List ℕ) : Type 0 where
  pub count : length new ≡ 65536
  pub each : (a : ℕ) → a < 65536 → slice_index new a % 128 ≡ slice_index old a % 128
  pub borders : (a : ℕ) → a < 65536 → slice_index new a / 256 ≡ slice_index old a / 256

-- a given name covers the address
abbrev pub is_covered : List NameView → ℕ → Bool
is_covered names a = is_some (covering names a)

-- one of the first n names covers the address
abbrev pub is_covered_below : List NameView → ℕ → ℕ → Bool
is_covered_below names n a = list_any (λ v. covers v a) (take n names)

-- the first n names cover every address below `reach`, from the last of their own addresses on
abbrev pub Reaches : List NameView → ℕ → ℕ → Type 0
Reaches names n reach = (a : ℕ) → ((i : ℕ) → i < n → (name_at names i).address ≤ a) → a < reach → is_covered_below names n a ≡ true

-- one of the first n items of the image refers to the address
abbrev pub is_referenced_below : MapView → ℕ → ℕ → Bool
is_referenced_below m n a = list_any (refers m a) (take n (addresses (length m.image.bytes) m.image.start))
