-- Where segments begin.
--
-- A start for each of some names of segments, and the byte that fills what is missing before them. Of two starts of one
-- name the first counts. `free` is the layout without a segment.
use Rattle.std.specs.Prelude.{ℕ, Bool, true, false, List, [], ◌∷◌, ◌++◌, nat_lt, Option, Some, None}
use Rattle.stmt65.specs.Symbols.{Definition, find_name, address_of}

-- the addresses at which segments begin, by their names, and the byte that fills what is missing before them
pub record Layout : Type 0 where
  pub starts : List Definition
  pub fill : ℕ

-- no segment begins at a given address
abbrev pub free : Layout
free = record { starts = []; fill = 0 }

-- the address at which the segment of a name begins, if there is one
abbrev pub start_of : Layout → List ℕ → Option ℕ
start_of layout name = address_of (find_name name layout.starts)

-- whether the start lies before the address
abbrev pub is_before : Option ℕ → ℕ → Bool
is_before None at = false
is_before (Some start) at = nat_lt start at

-- the layout with a segment that begins at an address
abbrev pub with_start : Layout → List ℕ → ℕ → Layout
with_start layout name start = record { starts = layout.starts ++ record { name = name; value = start; constant = true } ∷ []; fill = layout.fill }
