-- A flag for each address.
use Rattle.std.specs.Prelude.{ℕ, ◌/◌, ◌%◌, ◌==◌, ◌&&◌, Bool, List, min, nat_le, nat_lt, slice_index}
use Rattle.std.specs.Int.{bit_at}

-- The flags as bits: that of the address a is bit a % 64 of the word a / 64.
pub record MarksView : Type 0 where
  pub words : List ℕ

-- The address is marked. An address past the last word is not.
unfoldable pub is_marked : MarksView → ℕ → Bool
is_marked marks a = bit_at (slice_index marks.words (a / 64)) (a % 64) == 1

-- One of the addresses from one to before another, up to $FFFF.
abbrev pub is_between : ℕ → ℕ → ℕ → Bool
is_between from to a = nat_le from a && nat_lt a (min to 65536)
