-- What a comparison writes, and how it ends.
use Rattle.std.specs.Prelude.{◌≡◌, ◌≢◌, ℕ, List, Option, Result, Ok, Err}
use Rattle.std.specs.Io.KnownBytes.{Appends}
use Rattle.map65.specs.Words.{AppendsFront, one_more}
use Rattle.as65.specs.Changes.{IsDifferences}
use Rattle.as65.specs.Compared.{Compared}
use Rattle.as65.specs.Types.{Differs, Done, Ended, Failure, File, Label, Memory, Refused, Writing}

-- of the differences this much was written
pub record Writes (moves : List Label) (c : Compared) (IsWritten : List ℕ → Type 0) : Type 0 where
  pub text : List ℕ
  pub lines : IsDifferences moves c text
  pub written : IsWritten text

-- Nothing differs and nothing is written, or something does and is written, or a write of
-- that failed, or memory ran out before.
abbrev pub Compares : List Label → Compared → Option (List ℕ) → Option (List ℕ) → Result Ended (Failure Refused) → Type 0
Compares moves c old new (Ok Done) = (c.image ≡ c.bytes) × (new ≡ old)
Compares moves c old new (Ok Differs) = (c.image ≢ c.bytes) × Writes moves c (Appends old new)
Compares moves c old new (Err Memory) = new ≡ old
Compares moves c old new (Err (File Writing)) = Writes moves c (AppendsFront old new)
Compares moves c old new (Err _) = ⊥

-- the count of failed writes rises by one exactly if that is the failure
abbrev pub CountsWrites : ℕ → ℕ → Result Ended (Failure Refused) → Type 0
CountsWrites old new (Err (File Writing)) = new ≡ one_more old
CountsWrites old new _ = new ≡ old
