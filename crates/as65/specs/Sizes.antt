-- Whether a listing gives as many bytes as are wanted.
use Rattle.std.specs.Prelude.{◌≡◌, ◌≢◌, ℕ, List, Option, Some, None, length}
use Rattle.std.specs.String.{string_bytes}
use Rattle.as65.specs.Types.{Failure, Memory, OtherSize, Own, Refused}

-- the failure has the name of the listing, how many bytes it gives, and how many are wanted, unless memory ran out
abbrev pub HasOther : List ℕ → List ℕ → Option ℕ → Failure Refused → Type 0
HasOther name bytes wanted Memory = Unit {0}
HasOther name bytes (Some n) (Own (OtherSize listing has most)) = (string_bytes listing ≡ name) × (has ≡ length bytes) × (most ≡ n) × (length bytes ≢ n)
HasOther name bytes wanted _ = ⊥
