-- The role of an address.
--
-- The role of an address of the image is the type of the range that the address belongs to, else
-- code. No address belongs to two ranges.
use Rattle.std.specs.Prelude.{ℕ, Bool, true, false, List, [], ◌∷◌, Option, Some, None, nat_lt, if◌then◌else◌}
use denote.Enum.Bare.{sameb}
use Rattle.info65.specs.contracts.information.range.RangeType as range_type
use Rattle.info65.specs.Words.{InfoView, has_address, layout_of}
use Rattle.map65.specs.Types.{Entry, RangeSpec, RangeType, Skipped}
use Rattle.info65.specs.declared.information.range.RangeType.TheVariants as role
use Rattle.map65.specs.ImageView.{is_inside}
use Rattle.map65.specs.MapView.{MapView}

-- the type of the range that the address belongs to, else code; in an information file no address belongs to two ranges
unfoldable pub role_in : List RangeSpec → ℕ → RangeType
role_in [] a = role.Code
role_in (r ∷ rs) a = if has_address r a then r.role else role_in rs a

abbrev pub role_of : InfoView → ℕ → RangeType
role_of info a = role_in info.ranges a

-- the role of an address; none outside the image
unfoldable pub role_at : MapView → ℕ → Option RangeType
role_at m a = if is_inside m.image a then Some (role_of m.info a) else None

abbrev pub is_role : RangeType → RangeType → Bool
is_role r q = sameb range_type.the_type r q

abbrev pub is_skipped : Entry → Bool
is_skipped Skipped = true
is_skipped _ = false

-- bytes of this role are not listed
abbrev pub is_skip : RangeType → Bool
is_skip r = is_skipped (layout_of r).entry

-- how many bytes an entry of a table has
abbrev pub unit_of : RangeType → ℕ
unit_of r = (layout_of r).unit

-- a table whose entries have more than one byte
abbrev pub is_wide : RangeType → Bool
is_wide r = nat_lt 1 (unit_of r)
