-- Where the text of a name is found: in the slot of its hash, or else beside the slots.
use Rattle.std.specs.Prelude.{◌≡◌, ◌≢◌, ◌⊎◌, ◌+◌, ◌*◌, ◌%◌, ℕ, true, false, List, [], ◌∷◌, Option, Some, get_or}
use Rattle.std.specs.BTreeMap as tree
use Rattle.std.specs.Cmp.Lexicographic.{slice_cmp}
use Rattle.std.specs.Ordering.{nat_cmp}
use Rattle.std.specs.Str.{bytes_eq}
use Rattle.info65.specs.declared.lookup.texts.Texts.{Texts}

-- a hash, with the bytes that follow what it is the hash of
unfoldable pub hash_from : ℕ → List ℕ → ℕ
hash_from hash [] = hash
hash_from hash (b ∷ bs) = hash_from ((hash * 413_293 + b) % 0x10_0000) bs

-- the slot of a text, one of so many
unfoldable pub slot_of : ℕ → List ℕ → ℕ
slot_of count text = hash_from 0 text % count

-- for each text the number of the name that took its slot, or 0, and the address where it stands beside the slots
pub record TextsView : Type 0 where
  pub slotted : List ℕ → ℕ
  pub others : List ℕ → Option ℕ

abbrev pub texts_seen : {Z : Type 0} → Texts Z → TextsView
texts_seen s = record { slotted = λ t. get_or s.slots.cells (slot_of s.slots.count t) 0; others = λ t. tree.get_by (λ k. slice_cmp nat_cmp t k.now) s.others }

-- What becomes of a text when that of a name with this number is added: its slot is given to the name, or it is the
-- text of the name and stands beside, or it is another text and stands as before.
abbrev pub AddsText : TextsView → List ℕ → ℕ → ℕ → TextsView → List ℕ → Type 0
AddsText old text address number new t =
    ((old.slotted t ≡ 0) × (new.slotted t ≡ number) × (new.others t ≡ old.others t))
    ⊎ (((old.slotted t ≢ 0) × (bytes_eq t text ≡ true) × (new.slotted t ≡ old.slotted t) × (new.others t ≡ Some address))
    ⊎ ((bytes_eq t text ≡ false) × (new.slotted t ≡ old.slotted t) × (new.others t ≡ old.others t)))

-- each text stands where it did
abbrev pub StandsAlike : TextsView → TextsView → Type 0
StandsAlike old new = (t : List ℕ) → (new.slotted t ≡ old.slotted t) × (new.others t ≡ old.others t)
