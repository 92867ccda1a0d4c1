-- Bytes that are passed over.
use Rattle.std.specs.Prelude.{◌≡◌, ℕ, List, [], drop, length, true, false, Bool, IfSome, Option, Some, Result, Ok, Err, ⊤}
use Rattle.std.specs.Io.KnownBytes.{Consumes}
use Rattle.map65.specs.Taking.{IsReadTo}

-- exactly this many bytes were taken, of a reader that reports its bytes
pub record Takes (count : ℕ) (old new : Option (List ℕ)) : Type 0 where
  pub bytes : List ℕ
  pub count_is : length bytes ≡ count
  pub taken : Consumes old new bytes

-- there were no more bytes than this, and all were taken
abbrev pub IsAllTaken : ℕ → Option (List ℕ) → Option (List ℕ) → Type 0
IsAllTaken count old new = IfSome old (λ xs. (drop count xs ≡ []) × (new ≡ Some []))

-- true: that many bytes were passed over; false: the input ended before, and all of it was passed over
abbrev pub Passes : {E : Type 0} → Result Bool E → ℕ → Option (List ℕ) → Option (List ℕ) → Type 0
Passes (Ok true) count old new = Takes count old new × IsReadTo count old new
Passes (Ok false) count old new = IsAllTaken count old new
Passes (Err e) count old new = ⊤
