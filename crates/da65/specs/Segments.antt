-- The segment of each group, and where a listing names it; the default segment has no name.
use Rattle.std.specs.Prelude.{ℕ, zero, suc, ◌+◌, Bool, true, false, List, Option, Some, None, if◌then◌else◌}
use Rattle.std.specs.Str.{bytes_eq}
use Rattle.stmt65.specs.Views as view
use Rattle.stmt65.specs.Words.{StatementView}
use Rattle.map65.specs.Words.{MapView, segment_at}
use Rattle.da65.specs.Groups.{begins}

-- both are the default, or both have this name; so a segment that is named CODE is not the default
abbrev pub is_same_segment : Option (List ℕ) → Option (List ℕ) → Bool
is_same_segment None None = true
is_same_segment (Some s) (Some t) = bytes_eq s t
is_same_segment _ _ = false

-- the segment of the last group that begins with one of the first k bytes; the default if there is none
unfoldable pub segment_before : MapView → ℕ → Option (List ℕ)
segment_before m zero = None
segment_before m (suc k) = if begins m (m.image.start + k) then segment_at m (m.image.start + k) else segment_before m k

-- the line that enters a segment
abbrev pub segment_statement : Option (List ℕ) → StatementView
segment_statement None = view.code
segment_statement (Some name) = view.segment name
