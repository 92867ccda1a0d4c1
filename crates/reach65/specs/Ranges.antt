-- Ranges of the addresses that are not taken.
use Rattle.std.specs.Prelude.{◌≡◌, ℕ, ◌<◌, ◌≤◌, ◌&&◌, not, Bool, List, All, AllPairs}
use Rattle.map65.specs.Words.{ImageView, end_of, is_inside}
use Rattle.reach65.specs.Types.{RangeSpec}
use Rattle.reach65.specs.Taken.{is_given}

-- an address of the image that is not taken
abbrev pub is_free : ImageView → (ℕ → Bool) → ℕ → Bool
is_free image taken a = is_inside image a && not (taken a)

-- the ranges have exactly the free addresses
abbrev pub HaveAllFree : ImageView → (ℕ → Bool) → List RangeSpec → Type 0
HaveAllFree image taken ranges = (a : ℕ) → is_given ranges a ≡ is_free image taken a

-- the range has an address, and the image has all that it has
pub record LiesIn (image : ImageView) (r : RangeSpec) : Type 0 where
  pub low : image.start ≤ r.first
  pub order : r.first ≤ r.last
  pub high : r.last < end_of image

abbrev pub LieIn : ImageView → List RangeSpec → Type 0
LieIn image ranges = All (LiesIn image) ranges

-- each ends before the later ones begin
abbrev pub AreInOrder : List RangeSpec → Type 0
AreInOrder ranges = AllPairs (λ r later. r.last < later.first) ranges
