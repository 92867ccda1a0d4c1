-- The name of an address: a base name, which stands for an address of its own, and how far the address lies after that.
--
-- The name of an address is the first of these that applies:
-- 1. the given name that has the address as its own, or, of the sized names that cover it, the one
--    with the highest address of its own;
-- 2. for a target inside an item of a table whose entries have more than one byte, the name of the item's first byte;
-- 3. for any other target, and for the first byte of an item that a target lies inside, `L`
--    and the address in four hex digits.
-- Any other address has no name.
use Rattle.std.specs.Prelude.{◌≡◌, ◌↔◌, ◌⊎◌, ℕ, ◌+◌, ◌-◌, ◌<◌, ◌≤◌, ◌==◌, ◌&&◌, ◌||◌, Bool, true, false, List, [], length, if◌then◌else◌, Option, Some, None, is_some}
use Rattle.std.specs.List.{list_any}
use Rattle.std.specs.Option.{option_map}
use Rattle.info65.specs.Words.{NameView, covering, covers, default_name, name_at}
use Rattle.map65.specs.Types.{NameKind, Place, RangeType}
use Rattle.map65.specs.ImageView.{is_inside}
use Rattle.map65.specs.Items.{item_len, item_start}
use Rattle.map65.specs.MapView.{MapView}
use Rattle.map65.specs.Roles.{is_skip, is_wide, role_at, role_of}
use Rattle.map65.specs.Spans.{addresses}
use Rattle.map65.specs.Targets.{IsTarget, target_at}
use Rattle.map65.specs.declared.name.Place.TheVariants as place

-- ---- the item that an address lies inside

-- the address lies inside an item of a table with entries of more than one byte, after its first byte
pub record IsInner (m : MapView) (a first : ℕ) : Type 0 where
  pub wide : is_wide (role_of m.info a) ≡ true
  pub begins : 0 < item_len m first
  pub after : first < a
  pub before : a < first + item_len m first

-- the first byte of the item that the address lies inside, in such a table; any other address itself
unfoldable pub entry_start : MapView → ℕ → ℕ
entry_start m a = if is_inside m.image a && is_wide (role_of m.info a) then item_start m a else a

-- ---- which addresses need a name

-- the target is the address, or lies inside the item that begins there
abbrev pub refers_by : MapView → Option ℕ → ℕ → Bool
refers_by m None a = false
refers_by m (Some t) a = t == a || entry_start m t == a

unfoldable pub refers : MapView → ℕ → ℕ → Bool
refers m a item = refers_by m (target_at m item) a

-- the address is a target, or the first byte of an item that a target lies inside
unfoldable pub is_referenced : MapView → ℕ → Bool
is_referenced m a = list_any (refers m a) (addresses (length m.image.bytes) m.image.start)

-- ---- the name

-- a name without an offset, and the address that it stands for
pub record Base : Type 0 where
  pub text : List ℕ
  pub address : ℕ

abbrev pub given_base : NameView → Base
given_base n = record { text = n.text; address = n.address }

abbrev pub default_base : ℕ → Base
default_base a = record { text = default_name a; address = a }

-- the base of a name that is given, else this one
abbrev pub base_or : Option NameView → Base → Base
base_or (Some n) b = given_base n
base_or None b = b

-- the base of the address of an item, or of an address outside such items
unfoldable pub entry_base : MapView → ℕ → Base
entry_base m a = base_or (covering m.info.names (entry_start m a)) (default_base (entry_start m a))

abbrev pub base_by : Option NameView → Bool → Base → Option Base
base_by (Some n) referenced b = Some (given_base n)
base_by None true b = Some b
base_by None false b = None

-- the base of an address's name
unfoldable pub base_at : MapView → ℕ → Option Base
base_at m a = base_by (covering m.info.names a) (is_referenced m a) (entry_base m a)

-- ---- where a base is defined

-- A base outside the image or in skipped bytes is a constant, one where an item begins is a label, and any other is
-- defined before the code item that it lies inside.
abbrev pub place_in : Option RangeType → ℕ → Place
place_in None len = place.Constant
place_in (Some r) len = if is_skip r then place.Constant else (if len == 0 then place.Forward else place.Label)

unfoldable pub place_of : MapView → ℕ → Place
place_of m b = place_in (role_at m b) (item_len m b)

abbrev pub kind_by : MapView → ℕ → Base → NameKind
kind_by m a b = record { place = place_of m b.address; offset = a - b.address }

-- the place of the base of an address's name, and how far the address lies after it
unfoldable pub kind_at : MapView → ℕ → Option NameKind
kind_at m a = option_map (kind_by m a) (base_at m a)

abbrev pub text_by : Option Base → List ℕ
text_by None = []
text_by (Some b) = b.text

-- the text of the base; empty for an address without a name
unfoldable pub text_at : MapView → ℕ → List ℕ
text_at m a = text_by (base_at m a)

-- the address has a name
unfoldable pub has_name : MapView → ℕ → Bool
has_name m a = is_some (kind_at m a)

-- ---- the laws

-- the address is a target, or the first byte of an item that a target lies inside
pub record IsReferenced (m : MapView) (a : ℕ) : Type 0 where
  pub target : ℕ
  pub is_target : IsTarget m target
  pub place : (a ≡ target) ⊎ IsInner m target a

abbrev pub ReferenceLaw : MapView → Type 0
ReferenceLaw m = (a : ℕ) → (is_referenced m a ≡ true) ↔ IsReferenced m a

-- an address inside an item of such a table belongs to its first byte, any other to itself
pub record EntryStartLaw (m : MapView) : Type 0 where
  pub inner : (a first : ℕ) → IsInner m a first → entry_start m a ≡ first
  pub other : (a : ℕ) → ((first : ℕ) → IsInner m a first → ⊥) → entry_start m a ≡ a

-- of the names that cover the address, the one with the highest address of its own
pub record IsHighest (names : List NameView) (a : ℕ) (b : Base) : Type 0 where
  pub index : ℕ
  pub low : index < length names
  pub covers_it : covers (name_at names index) a ≡ true
  pub is : b ≡ given_base (name_at names index)
  pub highest : (i : ℕ) → i < length names → covers (name_at names i) a ≡ true → (name_at names i).address ≤ b.address

-- no name covers the address
abbrev pub IsUncovered : List NameView → ℕ → Type 0
IsUncovered names a = (i : ℕ) → i < length names → covers (name_at names i) a ≡ false

-- The name of an address by the rule, case by case.
pub record NameLaw (m : MapView) : Type 0 where
  pub given : (a : ℕ) (b : Base) → IsHighest m.info.names a b → base_at m a ≡ Some b
  pub inner : (a first : ℕ) → IsUncovered m.info.names a → IsTarget m a → IsInner m a first → base_at m a ≡ base_at m first
  pub default : (a : ℕ) → IsUncovered m.info.names a → IsReferenced m a → ((first : ℕ) → IsInner m a first → ⊥)
      → base_at m a ≡ Some (default_base a)
  pub none : (a : ℕ) → IsUncovered m.info.names a → (IsReferenced m a → ⊥) → base_at m a ≡ None
