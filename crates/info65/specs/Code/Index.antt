-- The index of names, and the tables that say which addresses belong to a range or to a segment.
use Rattle.std.specs.Prelude.{◌≡◌, ◌≢◌, ◌≤◌, ◌<◌, ◌+◌, ◌||◌, ◌&&◌, ℕ, zero, suc, Bool, false, List, Option, Some, None, All, AllPairs, get_or, length, nat_le, option_map, slice_get, if◌then◌else◌}
use Rattle.std.specs.List.{find, list_any}
use Rattle.std.specs.Str.{bytes_eq}
use Rattle.info65.specs.Code.Numbers.{NumbersView, number_at}
use Rattle.info65.specs.Code.Texts.{TextsView}
use Rattle.info65.specs.Labels.{named_at}
use Rattle.info65.specs.Ranges.{has_address}
use Rattle.info65.specs.Segments.{contains}
use Rattle.info65.specs.Views.{NameView, SegmentView}
use Rattle.info65.specs.Types.{RangeSpec}

-- the first of the names that has this text
abbrev pub text_at : List NameView → List ℕ → Option NameView
text_at names t = find (λ n. bytes_eq t n.text) names

-- the element with this number in the order of a list; the first has the number 1
abbrev pub numbered : {X : Type 0} → List X → ℕ → Option X
numbered names zero = None
numbered names (suc n) = slice_get names n

-- where a text stands by the name that took its slot: there if the name has the text, or else beside the slots
abbrev pub stands_by : List ℕ → Option ℕ → Option NameView → Option ℕ
stands_by t other None = None
stands_by t other (Some n) = if bytes_eq t n.text then Some n.address else other

-- the number of an address is that of its name, or 0
pub record IsFoundAt (names : List NameView) (numbers : List NumbersView) (a : ℕ) : Type 0 where
  pub low : number_at numbers a ≤ length names
  pub is : numbered names (number_at numbers a) ≡ named_at names a

-- a text is found where it stands, and nothing stands beside a slot that is free
pub record StandsIn (names : List NameView) (texts : TextsView) (t : List ℕ) : Type 0 where
  pub low : texts.slotted t ≤ length names
  pub alone : texts.slotted t ≡ 0 → texts.others t ≡ None
  pub is : stands_by t (texts.others t) (numbered names (texts.slotted t)) ≡ option_map (λ n. n.address) (text_at names t)

-- no two of the names have one text, and each is found by its address and by its text
pub record IsIndex (names : List NameView) (numbers : List NumbersView) (seen : TextsView) : Type 0 where
  pub distinct : AllPairs (λ n m. n.text ≢ m.text) names
  pub addresses : (a : ℕ) → IsFoundAt names numbers a
  pub texts : (t : List ℕ) → StandsIn names seen t

-- one of so many cells from this one on is set
unfoldable pub any_in : List Bool → ℕ → ℕ → Bool
any_in table first zero = false
any_in table first (suc n) = get_or table first false || any_in table (first + 1) n

-- the cells from `first` to `last` are set too
abbrev pub AreSetToo : ℕ → ℕ → List Bool → List Bool → Type 0
AreSetToo first last old new = (a : ℕ) → a < 0x1_0000 → get_or new a false ≡ (get_or old a false || (nat_le first a && nat_le a last))

-- the same cells are set
abbrev pub AreSetAlike : List Bool → List Bool → Type 0
AreSetAlike old new = (a : ℕ) → a < 0x1_0000 → get_or new a false ≡ get_or old a false

-- the cells say which addresses belong to a range
pub record AreRanged (ranges : List RangeSpec) (table : List Bool) : Type 0 where
  pub ordered : All (λ r. r.first ≤ r.last) ranges
  pub ranged : (a : ℕ) → a < 0x1_0000 → get_or table a false ≡ list_any (λ r. has_address r a) ranges

-- the cells say which addresses belong to a segment
pub record AreMarked (segments : List SegmentView) (table : List Bool) : Type 0 where
  pub ordered : All (λ s. s.first ≤ s.last) segments
  pub marked : (a : ℕ) → a < 0x1_0000 → get_or table a false ≡ list_any (λ s. contains s a) segments
