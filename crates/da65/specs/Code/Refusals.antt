-- What the parts of a run that write a message have written, for each of their results.
use Rattle.std.specs.Prelude.{◌≡◌, ℕ, ◌<◌, List, length, Option, Result, Ok, Err}
use Rattle.std.specs.Io.KnownBytes.{Keeps, Appends}
use Rattle.map65.specs.Words.{AppendsFront}
use Rattle.da65.specs.Types.{Messages, RunFault, Status, Write}
use Rattle.da65.specs.declared.runs.outcome.Status.TheVariants.{Refused}
use Rattle.da65.specs.declared.runs.outcome.RunFault.TheVariants.{Memory}

-- the messages were written whole, or the write failed and a prefix of them was written
abbrev pub Tells : Result Status RunFault → Status → List ℕ → Option (List ℕ) → Option (List ℕ) → Type 0
Tells (Ok status) expected messages old new = (status ≡ expected) × Appends old new messages
Tells (Err Messages) expected messages old new = AppendsFront old new messages × (0 < length messages)
Tells (Err Memory) expected messages old new = ⊥
Tells (Err Write) expected messages old new = ⊥

-- the same of a refusal, or memory ran out before and nothing was written
abbrev pub RefusesOrGivesUp : Result Status RunFault → List ℕ → Option (List ℕ) → Option (List ℕ) → Type 0
RefusesOrGivesUp (Err Memory) message old new = Keeps old new
RefusesOrGivesUp result message old new = Tells result Refused message old new
