-- The names of addresses: a base, which stands for an address of its own, and how far an address lies after that.
--
-- An address is defined by name if a base stands for it. `AreSound` is what names
-- must be for a listing to assemble back.
use Rattle.std.specs.Prelude.{◌≡◌, ℕ, ◌<◌, ◌≤◌, ◌==◌, not, Bool, true, false, List, Option, Some, None}
use Rattle.map65.specs.Words.{Base, ImageView, MapView, base_at, is_inside, place_of, text_by}
use Rattle.stmt65.specs.Words.{is_name}
use Rattle.da65.specs.Types.{Place}
use Rattle.map65.specs.declared.name.Place.TheVariants as place

-- what a map says of names
pub record AddressNames : Type 0 where
  -- the base of an address's name, if the address has one
  pub base_at : ℕ → Option Base
  -- a constant line defines the base that stands for the address: it lies outside the image, or its byte is skipped
  pub has_constant : ℕ → Bool

abbrev pub is_constant : Place → Bool
is_constant place.Constant = true
is_constant place.Label = false
is_constant place.Forward = false

-- the names of a map
abbrev pub names_of : MapView → AddressNames
names_of m = record { base_at = base_at m; has_constant = λ v. is_constant (place_of m v) }

abbrev pub is_own : ℕ → Option Base → Bool
is_own a None = false
is_own a (Some b) = b.address == a

-- a base stands for the address: the address is defined by name
abbrev pub is_base : AddressNames → ℕ → Bool
is_base m a = is_own a (m.base_at a)

-- the text of the base that stands for the address
abbrev pub base_name : AddressNames → ℕ → List ℕ
base_name m a = text_by (m.base_at a)

-- the base is that of the address that it stands for, which is this one or lies before it
pub record IsBaseOf (m : AddressNames) (a : ℕ) (b : Base) : Type 0 where
  pub base : m.base_at b.address ≡ Some b
  pub before : b.address ≤ a

-- What a listing needs of its names to assemble back to an image of which no byte is skipped.
pub record AreSound (image : ImageView) (m : AddressNames) : Type 0 where
  -- no two bases share a text
  pub distinct : (u v : ℕ) → is_base m u ≡ true → is_base m v ≡ true → base_name m u ≡ base_name m v → u ≡ v
  -- each is a name
  pub named : (v : ℕ) → is_base m v ≡ true → is_name (base_name m v) ≡ true
  pub in_space : (v : ℕ) → is_base m v ≡ true → v < 65536
  pub bases : (a : ℕ) (b : Base) → m.base_at a ≡ Some b → IsBaseOf m a b
  pub constants : (v : ℕ) → is_base m v ≡ true → m.has_constant v ≡ not (is_inside image v)
