-- Line groups: the items that stand on one line.
--
-- A group is one item, or several neighbouring items of one piece of a table: as many as the layout of its type has on
-- a line. The items of a piece are counted from 0 at its start, and again from 0 at each item that is defined by name;
-- item k belongs to group k divided by the limit. So a group breaks before an item that is defined by name. An item of
-- code and a leftover byte of a table stand alone.
use Rattle.std.specs.Prelude.{◌≡◌, ℕ, zero, suc, ◌+◌, ◌-◌, ◌≤◌, ◌==◌, ◌&&◌, not, Bool, List, length, take, if◌then◌else◌}
use Rattle.std.specs.List.{filter, list_any}
use Rattle.info65.specs.Words.{layout_of}
use Rattle.da65.specs.Types.{RangeSpec, RangeType}
use Rattle.map65.specs.Words.{MapView, addresses, bytes_from, is_inside, is_joined, is_skip, item_len, item_start, left_at, role_of, unit_of}
use Rattle.da65.specs.BaseNames.{is_base, names_of}

-- how many items a line takes at most
abbrev pub limit_of : RangeType → ℕ
limit_of r = (layout_of r).per_line

-- the item at an address is as long as those of its role's tables: it is not left over
abbrev pub is_whole : MapView → ℕ → Bool
is_whole m a = item_len m a == unit_of (role_of m.info a)

-- how many items the line takes that begins with the item at an address: a leftover byte stands alone
abbrev pub limit_at : MapView → ℕ → ℕ
limit_at m a = if is_whole m a then limit_of (role_of m.info a) else 1

-- the address is defined by name
abbrev pub is_defined : MapView → ℕ → Bool
is_defined m a = is_base (names_of m) a

-- the item at an address may stand on the line of the one before it: it is of the same
-- piece, whole, and not defined by name
unfoldable pub goes_on : MapView → ℕ → Bool
goes_on m a = is_joined m a && (is_whole m a && not (is_defined m a))

-- how many bytes the items have that go on from an address, of n at most
unfoldable pub more_at : MapView → ℕ → ℕ → ℕ
more_at m zero a = 0
more_at m (suc n) a = if goes_on m a then item_len m a + more_at m n (a + item_len m a) else 0

-- how many bytes the group has that begins with the item at an address: that item, and those
-- that go on, as many as the line takes
unfoldable pub group_len : MapView → ℕ → ℕ
group_len m a = item_len m a + more_at m (limit_at m a - 1) (a + item_len m a)

-- from a group to the next one; a skipped byte has none, and is passed over
unfoldable pub stride_at : MapView → ℕ → ℕ
stride_at m a = if is_skip (role_of m.info a) then 1 else group_len m a

-- a group begins at the address: groups follow each other
unfoldable pub begins : MapView → ℕ → Bool
begins m a = is_inside m.image a && (not (is_skip (role_of m.info a)) && left_at (stride_at m) m.image.start (a - m.image.start) == 0)

-- the bytes of the group that begins at an address
abbrev pub group_bytes : MapView → ℕ → List ℕ
group_bytes m a = take (group_len m a) (bytes_from m.image a)

-- The addresses of the image at which groups begin, in their order.
unfoldable pub group_addresses : MapView → List ℕ
group_addresses m = filter (begins m) (addresses (length m.image.bytes) m.image.start)

-- ---- what is left from a byte on

-- the addresses from the k-th byte on at which groups begin
unfoldable pub groups_from : MapView → ℕ → List ℕ
groups_from m k = filter (begins m) (addresses (length m.image.bytes - k) (m.image.start + k))

-- no item lies over the k-th byte and the one before it
abbrev pub BeginsItem : MapView → ℕ → Type 0
BeginsItem m k = item_start m (m.image.start + k) ≡ m.image.start + k

-- a group begins with the k-th byte or it is skipped, or the image ends before it
pub record IsGroupPlace (m : MapView) (k : ℕ) : Type 0 where
  pub bound : k ≤ length m.image.bytes
  pub group : left_at (stride_at m) m.image.start k ≡ 0
  pub item : BeginsItem m k

-- ---- skipped bytes

-- a byte of the image is skipped
unfoldable pub skips : MapView → Bool
skips m = list_any (λ a. is_skip (role_of m.info a)) (addresses (length m.image.bytes) m.image.start)

-- the bytes of a range are skipped
abbrev pub is_skip_range : RangeSpec → Bool
is_skip_range r = is_skip r.role
