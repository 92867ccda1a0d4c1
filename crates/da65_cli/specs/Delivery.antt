-- What the output and standard error have at the end of a run, for each of its results.
use Rattle.std.specs.Prelude.{◌≡◌, ℕ, List, [], ◌++◌, Option, Some, Result, Ok, Err}
use Rattle.std.specs.Io.KnownBytes.{Appends, Keeps}
use Rattle.da65.specs.Words.{FailsAtMostOnce, Outcome}
use Rattle.da65.specs.declared.runs.outcome.RunFault.{RunFault}
use Rattle.da65.specs.declared.runs.outcome.RunFault.TheVariants.{Memory, Write, Messages}
use Rattle.da65.specs.declared.runs.outcome.Status.{Status}
use Rattle.da65.specs.declared.runs.outcome.Status.TheVariants.{Done}
use Rattle.map65.specs.Words.{AppendsFront}

-- these bytes are a prefix of a text
pub record HasPrefix (bytes : Option (List ℕ)) (text : List ℕ) : Type 0 where
  pub prefix : List ℕ
  pub rest : List ℕ
  pub bytes_are : bytes ≡ Some prefix
  pub parts : text ≡ prefix ++ rest

-- The whole listing is on the output before the first byte of a message is on standard error: if the output has only a
-- prefix of it, then standard error has none.
abbrev pub Delivers : Result Status RunFault → Outcome → Option (List ℕ) → Option (List ℕ) → Option (List ℕ) → Type 0
Delivers (Ok status) outcome out errors errors' = (status ≡ outcome.status) × (out ≡ Some outcome.listing) × Appends errors errors' outcome.messages
Delivers (Err Messages) outcome out errors errors' = (out ≡ Some outcome.listing) × AppendsFront errors errors' outcome.messages
Delivers (Err Write) outcome out errors errors' = HasPrefix out outcome.listing × Keeps errors errors'
Delivers (Err Memory) outcome out errors errors' = (out ≡ Some []) × Keeps errors errors'

-- no read failed where the listing is done or memory ran out; else at most one did
abbrev pub InputCount : Result Status RunFault → ℕ → ℕ → Type 0
InputCount (Ok Done) old new = new ≡ old
InputCount (Err Memory) old new = new ≡ old
InputCount _ old new = FailsAtMostOnce old new
