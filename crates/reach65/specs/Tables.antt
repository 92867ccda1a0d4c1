-- Tables by which the texts after calls are found: numbers of groups by address, and ends of texts by their first byte.
use Rattle.std.specs.Prelude.{◌≡◌, ℕ, ◌+◌, ◌-◌, ◌≤◌, ◌==◌, ◌&&◌, Bool, true, List, [], if◌then◌else◌, Option, Some, None, slice_get, slice_index}
use Rattle.std.specs.List.{list_any}
use Rattle.map65.specs.Words.{ImageView}
use Rattle.reach65.specs.Types.{Tag}
use Rattle.reach65.specs.Inlines.{inline_of, is_inline, is_kind, text_end}

-- the group says of some address that text follows its calls
abbrev pub is_text : Tag → Bool
is_text t = is_kind t.kind

-- the group of this number, from 1 on, or for 0 the group of the address among the rest
abbrev pub numbered : List Tag → List Tag → ℕ → ℕ → Option Tag
numbered tags rest a n = if n == 0 then inline_of rest a else slice_get tags (n - 1)

-- for each address the number of its first group, or 0 if that is one of the rest
pub record AreFirsts (tags rest : List Tag) (firsts : List ℕ) : Type 0 where
  pub found : (a : ℕ) → inline_of tags a ≡ numbered tags rest a (slice_index firsts a)

-- the number of a group is entered for its address, if none is there
abbrev pub Enters : Tag → ℕ → List ℕ → List ℕ → Type 0
Enters t number old new = (a : ℕ) → slice_index new a ≡ (if slice_index old a == 0 && is_inline a t then number else slice_index old a)

-- an address and one more, and 0 for none
abbrev pub coded : Option ℕ → ℕ
coded None = 0
coded (Some a) = a + 1

-- for each address of the image from one on, where the text that stands there ends with a zero byte
pub record AreEnds (image : ImageView) (from : ℕ) (ends : List ℕ) : Type 0 where
  pub found : (a : ℕ) → from ≤ a → slice_index ends (a - image.start) ≡ coded (text_end image None a)

-- some group says that text follows calls
abbrev pub HasText : List Tag → Type 0
HasText tags = list_any is_text tags ≡ true

-- both tables; the second one is needed only if there is such a group
pub record AreTables (image : ImageView) (tags : List Tag) (firsts ends : List ℕ) : Type 0 where
  pub groups : AreFirsts tags [] firsts
  pub zero_ends : HasText tags → AreEnds image image.start ends
