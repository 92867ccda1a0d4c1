-- Given names: what the groups LABEL and RANGE say of names, the faults of a name after those before it,
-- and all names of a file by address.
use Rattle.std.specs.Prelude.{◌+◌, ◌==◌, ◌&&◌, ◌++◌, ℕ, zero, suc, Bool, not, List, [], ◌∷◌, Option, Some, None, Result, Ok, Err, nat_le, option_map, option_to_list, if◌then◌else◌}
use Rattle.std.specs.List.{find, flat_map, list_any}
use Rattle.std.specs.Option.{unwrap_or}
use Rattle.std.specs.Str.{bytes_eq}
use Rattle.info65.specs.Comments.{comment_in}
use Rattle.info65.specs.Groups.{AssignmentView, GroupView, value_in}
use Rattle.info65.specs.Names.{is_reserved}
use Rattle.info65.specs.Ranges.{range_in}
use Rattle.info65.specs.Values.{as_address, as_name, as_number}
use Rattle.info65.specs.Views.{NameView}
use Rattle.info65.specs.declared.syntax.attribute.Attribute.TheVariants as attribute
use Rattle.info65.specs.Types.{AddressTwice, GroupKind, InfoFaultKind, Missing, NameTwice, OutOfRange, RangeSpec, ReservedName}
use Rattle.info65.specs.declared.syntax.attribute.GroupKind.TheVariants as group

-- ---- what a group says

abbrev pub named : ℕ → ℕ → Option (List ℕ) → List ℕ → NameView
named address size comment text = record { address = address; size = size; text = text; comment = comment }

-- a name whose addresses end at or below $FFFF
abbrev pub label_sized : ℕ → List ℕ → ℕ → Option (List ℕ) → Result NameView InfoFaultKind
label_sized address text size comment = if nat_le (address + size) 0x1_0000 then Ok (named address size comment text) else Err OutOfRange

-- ADDR and NAME are needed; without SIZE it is 1
abbrev pub label_from : Option ℕ → Option (List ℕ) → Option ℕ → Option (List ℕ) → Result NameView InfoFaultKind
label_from (Some address) (Some text) size comment = label_sized address text (unwrap_or size 1) comment
label_from _ _ size comment = Err Missing

-- the name that a group LABEL says by what is given in it, or the fault that it has by itself
unfoldable pub label_in : List AssignmentView → Result NameView InfoFaultKind
label_in given =
    label_from (as_address (value_in attribute.Address given)) (as_name (value_in attribute.Name given))
    (as_number (value_in attribute.Size given)) (comment_in given)

-- the name that a group RANGE says: that of its first address
unfoldable pub range_name : List AssignmentView → RangeSpec → Option NameView
range_name given r = option_map (named r.first 1 (comment_in given)) (as_name (value_in attribute.Name given))

abbrev pub name_of_range : List AssignmentView → Result RangeSpec InfoFaultKind → List NameView
name_of_range given (Ok r) = option_to_list (range_name given r)
name_of_range given (Err f) = []

abbrev pub name_of_label : Result NameView InfoFaultKind → List NameView
name_of_label (Ok n) = n ∷ []
name_of_label (Err f) = []

-- the name that a group says, where it says one
abbrev pub name_part : GroupView → List NameView
name_part g = said g.kind g.given
  where
    said : GroupKind → List AssignmentView → List NameView
    said group.Global given = []
    said group.Range given = name_of_range given (range_in given)
    said group.Label given = name_of_label (label_in given)
    said group.Segment given = []
    said group.Include given = []

-- the names of the groups LABEL and RANGE, in the order of the groups
unfoldable pub names_said : List GroupView → List NameView
names_said groups = flat_map name_part groups

-- ---- the faults of a name

-- the other name has this text, and another address
abbrev pub is_elsewhere : NameView → NameView → Bool
is_elsewhere n other = bytes_eq n.text other.text && not (other.address == n.address)

abbrev pub is_at : ℕ → NameView → Bool
is_at a n = n.address == a

-- The fault of a name after those before it: it is reserved, it stands at another address, or its address
-- has a name.
unfoldable pub name_fault : List NameView → NameView → Option InfoFaultKind
name_fault before n =
    if is_reserved n.address n.text then Some ReservedName
    else (if list_any (is_elsewhere n) before then Some NameTwice
    else (if list_any (is_at n.address) before then Some AddressTwice
    else None))

-- ---- all names by address

-- the first of the names whose own address this is
unfoldable pub named_at : List NameView → ℕ → Option NameView
named_at names a = find (is_at a) names

-- the names of so many addresses from this one on, in their order
unfoldable pub names_from : (ℕ → Option NameView) → ℕ → ℕ → List NameView
names_from name_of a zero = []
names_from name_of a (suc n) = option_to_list (name_of a) ++ names_from name_of (a + 1) n

-- the names of all addresses, in their order
unfoldable pub by_address : List NameView → List NameView
by_address names = names_from (named_at names) 0 0x1_0000
