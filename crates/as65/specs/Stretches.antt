-- Where two rows of bytes differ.
use Rattle.std.specs.Prelude.{◌≡◌, ◌==◌, ◌<◌, ◌≤◌, ◌&&◌, ℕ, Bool, true, false, not, nat_lt, List, [], ◌∷◌, length, slice_index_or}
use Rattle.as65.specs.Types.{Stretch}

-- whether both have a byte at this offset, and not the same one
abbrev pub differs : List ℕ → List ℕ → ℕ → Bool
differs one other i = nat_lt i (length one) && (nat_lt i (length other) && not (slice_index_or one i 0 == slice_index_or other i 0))

-- The stretches are, in order, all runs of offsets that differ, from an offset on, each as long as it can be: nothing
-- differs before the first, everything differs in it, nothing right after it, and the others are those after it.
unfoldable pub AreRuns : (ℕ → Bool) → ℕ → List Stretch → Type 0
AreRuns differ from [] = (i : ℕ) → from ≤ i → differ i ≡ false
AreRuns differ from (s ∷ later) =
    (from ≤ s.at) × ((i : ℕ) → from ≤ i → i < s.at → differ i ≡ false)
    × (s.at < s.end) × ((i : ℕ) → s.at ≤ i → i < s.end → differ i ≡ true)
    × (differ s.end ≡ false) × AreRuns differ s.end later
