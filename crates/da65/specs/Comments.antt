-- The comments of given names.
use Rattle.std.specs.Prelude.{ℕ, ◌==◌, List, Option, Some, None, if◌then◌else◌}
use Rattle.info65.specs.Words.{NameView, covering}
use Rattle.map65.specs.Words.{MapView}

abbrev pub comment_by : ℕ → Option NameView → Option (List ℕ)
comment_by a None = None
comment_by a (Some n) = if n.address == a then n.comment else None

-- the comment of the name that has this address as its own
unfoldable pub comment_at : MapView → ℕ → Option (List ℕ)
comment_at m a = comment_by a (covering m.info.names a)
