-- Runs and pieces.
--
-- A run is a longest stretch of the image of one role without a segment border inside. In a table whose entries have
-- more than one byte, every given name after the first address of a run cuts it, and the parts are its pieces: so an
-- entry never begins before a given name and ends after it. Elsewhere a run is one piece.
use Rattle.std.specs.Prelude.{◌≡◌, ◌↔◌, ◌⊎◌, ℕ, zero, suc, ◌+◌, ◌-◌, ◌==◌, ◌<◌, ◌≤◌, ◌&&◌, not, Bool, true, false, List, All, nat_lt}
use Rattle.std.specs.List.{list_any}
use Rattle.info65.specs.Words.{NameView, SegmentView}
use Rattle.map65.specs.ImageView.{end_of, is_inside}
use Rattle.map65.specs.MapView.{MapView}
use Rattle.map65.specs.Roles.{is_role, is_wide, role_of}
use Rattle.map65.specs.Segments.{is_border, segment_at}

-- the address lies in the run of the address before it: both lie in the image, have one role, and
-- no segment border stands between them
unfoldable pub is_in_run : MapView → ℕ → Bool
is_in_run m a =
    nat_lt m.image.start a && (nat_lt a (end_of m.image) && (is_role (role_of m.info (a - 1)) (role_of m.info a) && not (is_border m.info.segments a)))

-- one of these names has the address as its own
unfoldable pub is_own : List NameView → ℕ → Bool
is_own names a = list_any (λ n. n.address == a) names

-- the address lies in the piece of the address before it: in its run, and no given name cuts the run there
unfoldable pub is_joined : MapView → ℕ → Bool
is_joined m a = is_in_run m a && not (is_wide (role_of m.info a) && is_own m.info.names a)

-- the addresses from b to a lie in one run
abbrev pub AreOneRun : MapView → ℕ → ℕ → Type 0
AreOneRun m b a = (x : ℕ) → b < x → x ≤ a → is_in_run m x ≡ true

-- the addresses from b to a lie in one piece
abbrev pub AreOnePiece : MapView → ℕ → ℕ → Type 0
AreOnePiece m b a = (x : ℕ) → b < x → x ≤ a → is_joined m x ≡ true

-- the address is the first of its piece
abbrev pub IsFirst : MapView → ℕ → Type 0
IsFirst m a = (a ≡ m.image.start) ⊎ (is_joined m a ≡ false)

-- ---- the laws

-- every address from b to a has the same role, and no segment begins or ends between them
pub record AreAlike (m : MapView) (b a : ℕ) : Type 0 where
  pub roles : (x : ℕ) → b ≤ x → x ≤ a → role_of m.info x ≡ role_of m.info b
  pub starts : All (λ (s : SegmentView). b < s.first → s.first ≤ a → ⊥) m.info.segments
  pub ends : All (λ (s : SegmentView). b ≤ s.last → s.last < a → ⊥) m.info.segments

pub record RunLaw (m : MapView) : Type 0 where
  -- Two addresses of the image lie in one run exactly when all from the one to the other are alike; so
  -- neighbouring ranges of one type are one run.
  pub run : (b a : ℕ) → b ≤ a → is_inside m.image b ≡ true → is_inside m.image a ≡ true → AreOneRun m b a ↔ AreAlike m b a
  -- A run lies in one segment, or outside all.
  pub segment : (b a x : ℕ) → AreOneRun m b a → b ≤ x → x ≤ a → segment_at m x ≡ segment_at m b

-- no given name has its own address after b and up to a
abbrev pub AreUnnamed : MapView → ℕ → ℕ → Type 0
AreUnnamed m b a = All (λ (n : NameView). b < n.address → n.address ≤ a → ⊥) m.info.names

-- Two addresses of one run lie in one piece, unless the run is a table of entries of more than one byte and a given
-- name stands after the first address and up to the second.
pub record PieceLaw (m : MapView) : Type 0 where
  pub run : (b a : ℕ) → AreOnePiece m b a → AreOneRun m b a
  pub narrow : (b a : ℕ) → b ≤ a → is_wide (role_of m.info b) ≡ false → AreOneRun m b a → AreOnePiece m b a
  pub wide : (b a : ℕ) → b ≤ a → is_wide (role_of m.info b) ≡ true → AreOneRun m b a → AreOnePiece m b a ↔ AreUnnamed m b a

-- ---- how the bytes of an item are tested

-- each of the n addresses after a lies in its piece
unfoldable pub are_joined : MapView → ℕ → ℕ → Bool
are_joined m zero a = true
are_joined m (suc n) a = is_joined m (a + 1) && are_joined m n (a + 1)
