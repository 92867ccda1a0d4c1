-- What is known, before a byte of the image, of the segments of the groups before it.
use Rattle.std.specs.Prelude.{◌≡◌, ◌+◌, ◌<◌, ℕ, ◌&&◌, ◌||◌, not, Bool, true, false, List, Option, is_some, map}
use Rattle.std.specs.BTreeMap.{BTreeMap, get_by}
use Rattle.std.specs.Borrow.{Bor}
use Rattle.std.specs.Cmp.Lexicographic.{slice_cmp}
use Rattle.std.specs.Option.{option_copied}
use Rattle.std.specs.Ordering.{nat_cmp}
use Rattle.std.specs.Str.{bytes_eq}
use Rattle.map65.specs.Words.{MapView, is_skip, role_of, segment_at}
use Rattle.da65.specs.Groups.{groups_from}
use Rattle.da65.specs.SegmentReentry.{enters_again, is_among, is_entered_again, segment_name}
use Rattle.da65.specs.Segments.{is_same_segment, segment_before}
use Rattle.da65.specs.Types.{Entered}

-- the name is one of these
abbrev pub has_name : {X : Type 0} → BTreeMap (Bor (List ℕ)) X → List ℕ → Bool
has_name names name = is_some (get_by (λ k. slice_cmp nat_cmp name k.now) names)

-- a group had a segment of this name
abbrev pub has_had : {Z : Type 0} → Entered Z → List ℕ → Bool
has_had e name = has_name e.names name

-- one name more
abbrev pub HasNameToo : {X : Type 0} → BTreeMap (Bor (List ℕ)) X → BTreeMap (Bor (List ℕ)) X → List ℕ → Type 0
HasNameToo old new name = (t : List ℕ) → has_name new t ≡ (bytes_eq name t || has_name old t)

-- what is known after one more group, of this segment
pub record IsAfter {Z : Type 0} (old new : Entered Z) (segment : Option (List ℕ)) (is_back : Bool) : Type 0 where
  pub back : is_back ≡ (not (is_same_segment (option_copied old.last) segment) && has_had old (segment_name segment))
  pub last : option_copied new.last ≡ segment
  pub had : HasNameToo old.names new.names (segment_name segment)

-- The groups from the k-th byte on decide the warning, after groups of segments with the names `had`.
pub record AreEnteredBefore {Z : Type 0} (m : MapView) (k : ℕ) (e : Entered Z) : Type 0 where
  pub last : option_copied e.last ≡ segment_before m k
  pub had : List (List ℕ)
  pub same : (t : List ℕ) → is_among had t ≡ has_had e t
  -- once there was a group, the name of the last one's segment is among them
  pub known : (j : ℕ) → j < k → is_skip (role_of m.info (m.image.start + j)) ≡ false → is_among had (segment_name (segment_before m k)) ≡ true
  pub rest : enters_again (segment_before m k) had (map (segment_at m) (groups_from m k)) ≡ is_entered_again m
