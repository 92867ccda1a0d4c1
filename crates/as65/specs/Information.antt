-- Where an image is, as an information file says it.
use Rattle.std.specs.Prelude.{◌&&◌, ◌-◌, ℕ, Option, Some, None, nat_le, nat_lt, if◌then◌else◌}

-- at the start, or so that the last byte is at $FFFF
abbrev pub placed_at : Option ℕ → Option ℕ → Option ℕ
placed_at (Some start) size = Some start
placed_at None None = None
placed_at None (Some size) = if nat_lt 0 size && nat_le size 65536 then Some (65536 - size) else None
