-- The warning of a segment that is entered again.
--
-- A segment line stands before each group whose segment differs from that of the group before it; the
-- first group is compared with the default. The segment is entered again if an earlier group had a segment
-- of its name. The default counts as CODE.
use Rattle.std.specs.Prelude.{ℕ, ◌&&◌, ◌||◌, not, Bool, false, List, [], ◌∷◌, map, codes, Option, Some, None}
use Rattle.std.specs.List.{list_any}
use Rattle.std.specs.Str.{bytes_eq}
use Rattle.map65.specs.Words.{MapView, segment_at}
use Rattle.da65.specs.Groups.{group_addresses}
use Rattle.da65.specs.Segments.{is_same_segment}

-- the name of a segment
abbrev pub segment_name : Option (List ℕ) → List ℕ
segment_name None = codes "CODE"
segment_name (Some name) = name

-- the name is one of these
abbrev pub is_among : List (List ℕ) → List ℕ → Bool
is_among names name = list_any (λ n. bytes_eq n name) names

-- a segment line leads to this segment, after a group of the segment `last`, and earlier
-- groups had segments of the names `had`
abbrev pub leads_back : Option (List ℕ) → List (List ℕ) → Option (List ℕ) → Bool
leads_back last had s = not (is_same_segment last s) && is_among had (segment_name s)

-- the same of one of these segments, which groups have one after the other
unfoldable pub enters_again : Option (List ℕ) → List (List ℕ) → List (Option (List ℕ)) → Bool
enters_again last had [] = false
enters_again last had (s ∷ ss) = leads_back last had s || enters_again s (segment_name s ∷ had) ss

-- A segment line of the listing leads to a segment that an earlier group had.
unfoldable pub is_entered_again : MapView → Bool
is_entered_again m = enters_again None [] (map (segment_at m) (group_addresses m))
