-- What contracts see of an image.
use Rattle.std.specs.Prelude.{ℕ, ◌+◌, ◌-◌, ◌<◌, ◌≤◌, ◌&&◌, Bool, nat_le, nat_lt, List, length, drop, slice_index, All}

-- bytes at the addresses from a start on
pub record ImageView : Type 0 where
  pub start : ℕ
  pub bytes : List ℕ

-- there is a byte, and the last one lies at or below $FFFF
pub record IsPlaced (image : ImageView) : Type 0 where
  pub some : 0 < length image.bytes
  pub room : image.start + length image.bytes ≤ 65536

abbrev pub AreBytes : List ℕ → Type 0
AreBytes bytes = All (λ b. b < 256) bytes

-- the first address after the image
abbrev pub end_of : ImageView → ℕ
end_of image = image.start + length image.bytes

abbrev pub is_inside : ImageView → ℕ → Bool
is_inside image a = nat_le image.start a && nat_lt a (end_of image)

-- the byte at an address of the image
abbrev pub byte_at : ImageView → ℕ → ℕ
byte_at image a = slice_index image.bytes (a - image.start)

-- the bytes from an address on
abbrev pub bytes_from : ImageView → ℕ → List ℕ
bytes_from image a = drop (a - image.start) image.bytes
