-- Items: instructions, the entries of tables, and single bytes.
--
-- An item begins at an address of the image exactly when the address is not skipped and is the first of its piece, or
-- an item of the same piece ends just before it. In code an item has the bytes of its instruction; an undefined opcode
-- is an item of one byte. In a table an item has as many bytes as the table's unit. Where its piece ends earlier an
-- item has one byte: a cut opcode, or a leftover byte of a table.
use Rattle.std.specs.Prelude.{◌≡◌, ◌↔◌, ◌⊎◌, ℕ, zero, suc, ◌+◌, ◌-◌, ◌<◌, ◌==◌, ◌&&◌, not, nat_lt, true, false, Option, Some, None, if◌then◌else◌}
use Rattle.isa65.specs.Words.{decoded, len_of}
use Rattle.map65.specs.Types.{Op, RangeType}
use Rattle.info65.specs.declared.information.range.RangeType.TheVariants as role
use Rattle.map65.specs.ImageView.{byte_at, is_inside}
use Rattle.map65.specs.MapView.{MapView, opcodes}
use Rattle.map65.specs.Pieces.{AreOnePiece, IsFirst, are_joined, is_joined}
use Rattle.map65.specs.Roles.{is_skip, role_of, unit_of}

-- ---- the rule

-- an undefined opcode is an item of one byte
abbrev pub code_size : Option Op → ℕ
code_size None = 1
code_size (Some op) = len_of op.mode

-- how many bytes an item of this role has that begins with this byte, if its piece has room for them
abbrev pub size_for : MapView → RangeType → ℕ → ℕ
size_for m role.Code b = code_size (decoded (opcodes m) b)
size_for m r b = unit_of r

-- how many bytes the item that begins at an address has, if its piece has room for them
unfoldable pub full_len_at : MapView → ℕ → ℕ
full_len_at m a = size_for m (role_of m.info a) (byte_at m.image a)

-- `len` is here the length of the item that begins at an address, and 0 where none does.

-- an item of the same piece ends just before the address
pub record EndsBefore (m : MapView) (len : ℕ → ℕ) (a : ℕ) : Type 0 where
  pub item : ℕ
  pub begins : 0 < len item
  pub ends : item + len item ≡ a
  pub piece : AreOnePiece m item a

-- what must hold for an item to begin at the address
pub record CanBegin (m : MapView) (len : ℕ → ℕ) (a : ℕ) : Type 0 where
  pub inside : is_inside m.image a ≡ true
  pub shown : is_skip (role_of m.info a) ≡ false
  pub place : IsFirst m a ⊎ EndsBefore m len a

pub record AreItems (m : MapView) (len : ℕ → ℕ) : Type 0 where
  pub begins : (a : ℕ) → 0 < len a ↔ CanBegin m len a
  pub whole : (a : ℕ) → 0 < len a → AreOnePiece m a (a + full_len_at m a - 1) → len a ≡ full_len_at m a
  pub cut : (a : ℕ) → 0 < len a → (AreOnePiece m a (a + full_len_at m a - 1) → ⊥) → len a ≡ 1

-- ---- the items of a map

-- the length of an item that begins at an address: 1 if its piece has no room for all of it
unfoldable pub size_at : MapView → ℕ → ℕ
size_at m a = if are_joined m (full_len_at m a - 1) a then full_len_at m a else 1

-- the first address, if the item that begins there reaches over the second one; else the second
abbrev pub start_over : MapView → ℕ → ℕ → ℕ
start_over m first a = if nat_lt a (first + size_at m first) then first else a

-- Where the item begins that an address belongs to: at the address itself, if that is the first of its piece
-- or the item before it ends there; else where the item of the address before it begins. There is no shorter
-- rule, since the length of each item decides where the next one begins. A skipped byte, and an address
-- outside the image, begins where it lies.
unfoldable pub item_start : MapView → ℕ → ℕ
item_start m zero = zero
item_start m (suc a) = if is_joined m (suc a) then start_over m (item_start m a) (suc a) else suc a

-- the length of the item that begins at the address, and 0 where none does
unfoldable pub item_len : MapView → ℕ → ℕ
item_len m a = if is_inside m.image a && (not (is_skip (role_of m.info a)) && item_start m a == a) then size_at m a else 0

-- ---- the law

-- The items of a map are those of the rule, and the rule has no others.
pub record ItemLaw (m : MapView) : Type 0 where
  pub items : AreItems m (item_len m)
  pub only : (len : ℕ → ℕ) → AreItems m len → (a : ℕ) → len a ≡ item_len m a
