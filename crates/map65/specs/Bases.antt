-- Where base names lie. A listing defines each base name once, so that it assembles back.
--
-- A base is defined by a constant line outside the image and in skipped bytes, by a label where an item begins, and by
-- a forward line inside an instruction: for `jmp $1001` at $1000 that is `L1001`.
use Rattle.std.specs.Prelude.{◌≡◌, ◌⊎◌, ℕ, ◌+◌, ◌<◌, ◌≤◌, true, false, Some}
use Rattle.map65.specs.Types.{Code, Constant, Forward, Label, Place}
use Rattle.map65.specs.ImageView.{is_inside}
use Rattle.map65.specs.Items.{item_len}
use Rattle.map65.specs.MapView.{MapView}
use Rattle.map65.specs.Names.{Base, base_at, place_of}
use Rattle.map65.specs.Roles.{is_skip, role_of}

-- the address lies outside the image, or is skipped
abbrev pub IsOutside : MapView → ℕ → Type 0
IsOutside m n = (is_inside m.image n ≡ false) ⊎ (is_skip (role_of m.info n) ≡ true)

-- the address lies inside an item of code, after its first byte
pub record IsInCode (m : MapView) (n : ℕ) : Type 0 where
  pub item : ℕ
  pub begins : 0 < item_len m item
  pub after : item < n
  pub before : n < item + item_len m item
  pub code : role_of m.info n ≡ Code

-- where an address lies that is defined in this way
abbrev pub LiesBy : Place → MapView → ℕ → Type 0
LiesBy Constant m n = IsOutside m n
LiesBy Label m n = 0 < item_len m n
LiesBy Forward m n = IsInCode m n

-- The base of an address's name lies outside the image or in skipped bytes, or an item begins there, or it lies inside
-- an item of code; its place says which. So no base lies inside an item of a table.
abbrev pub PlaceLaw : MapView → Type 0
PlaceLaw m = (a : ℕ) (b : Base) → base_at m a ≡ Some b → LiesBy (place_of m b.address) m b.address

pub record BaseLaw (m : MapView) : Type 0 where
  -- a base is not after an address that it names, so it lies in the address space
  pub low : (a : ℕ) (b : Base) → base_at m a ≡ Some b → b.address ≤ a
  -- a base is the name of its own address
  pub own : (a : ℕ) (b : Base) → base_at m a ≡ Some b → base_at m b.address ≡ Some b
  -- two bases with one text are one
  pub distinct : (a c : ℕ) (b d : Base) → a < 65536 → c < 65536 → base_at m a ≡ Some b → base_at m c ≡ Some d → b.text ≡ d.text → b ≡ d
