-- Ranges: their addresses, what a group RANGE says, and what holds of all ranges of a file.
use Rattle.std.specs.Prelude.{◌≡◌, ◌≤◌, ◌&&◌, ◌+◌, ◌-◌, ℕ, Bool, true, List, [], ◌∷◌, Option, Some, None, Result, Ok, Err, All, AllPairs, nat_le, if◌then◌else◌}
use Rattle.std.specs.List.{flat_map}
use Rattle.info65.specs.Comments.{lacks_name}
use Rattle.info65.specs.Groups.{AssignmentView, GroupView, value_in}
use Rattle.info65.specs.Values.{as_address, as_number, as_type}
use Rattle.info65.specs.declared.syntax.attribute.Attribute.TheVariants as attribute
use Rattle.info65.specs.Types.{GroupKind, InfoFaultKind, Missing, OutOfRange, RangeSpec, RangeType}
use Rattle.info65.specs.declared.syntax.attribute.GroupKind.TheVariants as group

-- the address belongs to the range: both ends do
abbrev pub has_address : RangeSpec → ℕ → Bool
has_address r a = nat_le r.first a && nat_le a r.last

-- no address belongs to both
abbrev pub AreApart : RangeSpec → RangeSpec → Type 0
AreApart r q = (a : ℕ) → has_address r a ≡ true → has_address q a ≡ true → ⊥

-- no address belongs to two of these
pub record AreDisjoint (ranges : List RangeSpec) : Type 0 where
  pub each : AllPairs AreApart ranges

-- ranges as a file can give them: disjoint, and none ends before it begins
pub record AreRanges (ranges : List RangeSpec) : Type 0 where
  pub disjoint : AreDisjoint ranges
  pub ordered : All (λ r. r.first ≤ r.last) ranges

-- the ranges share an address: neither lies whole below the other
unfoldable pub overlaps : RangeSpec → RangeSpec → Bool
overlaps r q = nat_le r.first q.last && nat_le q.first r.last

-- ---- what a group RANGE says

-- the last address, by END, or by SIZE from the first one on; it may lie past $FFFF
abbrev pub last_from : ℕ → Option ℕ → Option ℕ → Option ℕ
last_from first (Some last) size = Some last
last_from first None (Some size) = Some (first + size - 1)
last_from first None None = None

-- a range that does not end before it begins, nor past $FFFF
abbrev pub range_between : ℕ → RangeType → Option ℕ → Result RangeSpec InfoFaultKind
range_between first role None = Err Missing
range_between first role (Some last) =
    if nat_le first last && nat_le last 0xFFFF then Ok (record { first = first; last = last; role = role })
    else Err OutOfRange

-- START and TYPE are needed, and END or SIZE
abbrev pub range_from : Option ℕ → Option ℕ → Option ℕ → Option RangeType → Result RangeSpec InfoFaultKind
range_from (Some first) end size (Some role) = range_between first role (last_from first end size)
range_from _ end size _ = Err Missing

-- the range that START, END, SIZE and TYPE say
unfoldable pub range_of_parts : List AssignmentView → Result RangeSpec InfoFaultKind
range_of_parts given =
    range_from (as_address (value_in attribute.Start given)) (as_address (value_in attribute.End given))
    (as_number (value_in attribute.Size given)) (as_type (value_in attribute.Role given))

-- the range that a group RANGE says by what is given in it, or the fault that it has by itself; a comment
-- needs a name
unfoldable pub range_in : List AssignmentView → Result RangeSpec InfoFaultKind
range_in given = if lacks_name given then Err Missing else range_of_parts given

abbrev pub range_part : GroupView → List RangeSpec
range_part g = if_range g.kind (range_in g.given)
  where
    if_range : GroupKind → Result RangeSpec InfoFaultKind → List RangeSpec
    if_range group.Range (Ok r) = r ∷ []
    if_range _ _ = []

-- the ranges of the groups RANGE, in the order of the groups
unfoldable pub ranges_of : List GroupView → List RangeSpec
ranges_of groups = flat_map range_part groups
