-- Where a listing and its segments begin.
use Rattle.std.specs.Prelude.{◌-◌, ◌&&◌, ℕ, true, List, length, map, nat_le, nat_lt, if◌then◌else◌, Option, Some, None}
use Rattle.std.specs.List.{slice_get}
use Rattle.std.specs.Option.{unwrap_or}
use Rattle.info65.specs.Words.{SegmentView}
use Rattle.stmt65.specs.Words.{Definition, Layout, free, held, line_addresses, readings}
use Rattle.stmt65.specs.declared.language.Language.TheVariants.{Repair}

-- a segment begins at its START
abbrev pub start_of : SegmentView → Definition
start_of s = record { name = s.name; value = s.first; constant = true }

-- with a byte that fills what is missing each does, without one they go on one after the other
abbrev pub layout_of : List SegmentView → Option ℕ → Layout
layout_of segments None = free
layout_of segments (Some fill) = record { starts = map start_of segments; fill = fill }

-- the last of these numbers, or 0
abbrev pub last_of : List ℕ → ℕ
last_of numbers = unwrap_or (slice_get numbers (length numbers - 1)) 0

-- the start from which the last of so many bytes is at $FFFF
abbrev pub before_end : ℕ → ℕ
before_end len = if nat_lt 0 len && nat_le len 65536 then 65536 - len else 0

-- a start that is given, or else the one from which the last byte of a text is at $FFFF
unfoldable pub start_in : Layout → List ℕ → Option ℕ → ℕ
start_in layout text (Some a) = a
start_in layout text None = before_end (last_of (map held (line_addresses layout 0 (readings Repair text))))
