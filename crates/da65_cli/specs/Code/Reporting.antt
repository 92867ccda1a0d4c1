-- How the result of a run over a buffer and messages that wait becomes the result of the program.
-- These facts tie the code to Delivery.
use Rattle.std.specs.Prelude.{◌≡◌, ◌⊎◌, ℕ, List, Option, Result, Ok, Err}
use Rattle.std.specs.Io.KnownBytes.{Appends, Keeps, append_known}
use Rattle.da65.specs.declared.runs.outcome.RunFault.{RunFault}
use Rattle.da65.specs.declared.runs.outcome.RunFault.TheVariants.{Memory, Write, Messages}
use Rattle.da65.specs.declared.runs.outcome.Status.{Status}
use Rattle.map65.specs.Words.{AppendsFront, one_more}

-- the listing and the messages were taken whole
abbrev pub IsListed : Result Status RunFault → Type 0
IsListed (Ok status) = Unit {0}
IsListed (Err _) = ⊥

-- there was room for the messages
abbrev pub HasRoom : Result Status RunFault → Type 0
HasRoom was = was ≡ Err Messages → ⊥

-- the output has what was taken, but for bytes that are left in the buffer
pub record IsShortOf (taken out : Option (List ℕ)) : Type 0 where
  pub left : List ℕ
  pub kept : Keeps taken (append_known out left)

-- From what the buffer had taken, the messages that wait, and the result of the run:
-- what the output and standard error have.
abbrev pub FlushesThenReports : Result Status RunFault → Result Status RunFault → Option (List ℕ) → Option (List ℕ) → List ℕ → Option (List ℕ) → Option (List ℕ) → Type 0
FlushesThenReports was (Ok status) taken out messages errors errors' = (was ≡ Ok status) × Keeps taken out × Appends errors errors' messages
FlushesThenReports was (Err Messages) taken out messages errors errors' = IsListed was × Keeps taken out × AppendsFront errors errors' messages
FlushesThenReports was (Err Write) taken out messages errors errors' = IsShortOf taken out × Keeps errors errors'
FlushesThenReports was (Err Memory) taken out messages errors errors' = (was ≡ Err Memory) × IsShortOf taken out × Keeps errors errors'

-- the count of failed writes of the output, from the end of the run on
abbrev pub ReportsOutCount : Result Status RunFault → Result Status RunFault → ℕ → ℕ → Type 0
ReportsOutCount was (Err Write) old new = ((was ≡ Err Write) × (new ≡ old)) ⊎ (IsListed was × (new ≡ one_more old))
ReportsOutCount was _ old new = new ≡ old
