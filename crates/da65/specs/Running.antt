-- What a run has written and read, for each of its results.
use Rattle.std.specs.Prelude.{◌≡◌, ◌⊎◌, ℕ, ◌+◌, ◌-◌, ◌^◌, ◌<◌, ◌≤◌, Bool, List, length, IfOk, IfSome, IsErrOf, Option, Result, Ok, Err}
use Rattle.std.specs.Io.KnownBytes.{Keeps, Appends}
use Rattle.info65.specs.Words.{Gives, InfoView}
use Rattle.da65.specs.Types.{InfoFault, Messages, RunFault, Status, Write}
use Rattle.map65.specs.Words.{AppendsFront, TakesUpTo, has_failed, one_more, read_limit}
use Rattle.da65.specs.declared.runs.outcome.Status.TheVariants.{Refused}
use Rattle.da65.specs.declared.runs.outcome.RunFault.TheVariants.{Memory}
use Rattle.da65.specs.Outcome.{Outcome}

-- Ok: listing and messages were written whole. A failed write has written a prefix of its part, and nothing was written
-- after it. Messages is returned only if there was something to write.
abbrev pub Writes : Result Status RunFault → Outcome → Option (List ℕ) → Option (List ℕ) → Option (List ℕ) → Option (List ℕ) → Type 0
Writes (Ok status) outcome out out' msgs msgs' = (status ≡ outcome.status) × Appends out out' outcome.listing × Appends msgs msgs' outcome.messages
Writes (Err Memory) outcome out out' msgs msgs' = Keeps out out' × Keeps msgs msgs'
Writes (Err Write) outcome out out' msgs msgs' = AppendsFront out out' outcome.listing × Keeps msgs msgs'
Writes (Err Messages) outcome out out' msgs msgs' = Appends out out' outcome.listing × AppendsFront msgs msgs' outcome.messages × (0 < length outcome.messages)

-- nothing was written where the run gave up for this reason
abbrev pub KeepsAt : RunFault → Result Status RunFault → Option (List ℕ) → Option (List ℕ) → Type 0
KeepsAt fault result old new = IsErrOf result fault → Keeps old new

-- nothing was written where the run was refused
abbrev pub KeepsIfRefused : Result Status RunFault → Option (List ℕ) → Option (List ℕ) → Type 0
KeepsIfRefused result old new = IfOk result (λ status. status ≡ Refused → Keeps old new)

-- the count of failed writes of the listing rises by one exactly when the result is Write
abbrev pub OutCount : Result Status RunFault → ℕ → ℕ → Type 0
OutCount (Err Write) old new = new ≡ one_more old
OutCount _ old new = new ≡ old

-- the count of failed writes of the messages rises by one exactly when the result is Messages
abbrev pub MessagesCount : Result Status RunFault → ℕ → ℕ → Type 0
MessagesCount (Err Messages) old new = new ≡ one_more old
MessagesCount _ old new = new ≡ old

-- at most 320 bytes of messages were written: an include file's name has at most 255
abbrev pub WritesFew : Option (List ℕ) → Option (List ℕ) → Type 0
WritesFew old new = IfSome old (λ xs. IfSome new (λ ys. length ys ≤ length xs + 320))

-- at most one call failed
abbrev pub FailsAtMostOnce : ℕ → ℕ → Type 0
FailsAtMostOnce old new = (new ≡ old) ⊎ (new ≡ one_more old)

-- a read failed only if there was a message to write of it
abbrev pub InputCount : Result Status RunFault → ℕ → ℕ → Type 0
InputCount (Ok Refused) old new = FailsAtMostOnce old new
InputCount (Err Messages) old new = FailsAtMostOnce old new
InputCount _ old new = new ≡ old

-- ---- what is known of the files that are read

-- what holds of an information file that was read or refused, whichever it is
abbrev pub OfRead : Result InfoView InfoFault → (Result InfoView InfoFault → Type 0) → Type 0
OfRead read P = (defined : Result InfoView InfoFault) → Gives (λ i. i) read defined → P defined

-- what holds of an input's bytes, where it tells them and its count of failures can still rise
abbrev pub OfBytes : ℕ → Option (List ℕ) → (List ℕ → Type 0) → Type 0
OfBytes faults left P = faults < 2 ^ 64 - 1 → IfSome left P

-- what holds of an input's bytes and of whether a read of it failed, by its counts of failures before and after
abbrev pub OfInput : ℕ → ℕ → Option (List ℕ) → (List ℕ → Bool → Type 0) → Type 0
OfInput faults faults' left P = OfBytes faults left (λ bytes. P bytes (has_failed faults faults'))

-- at most the bytes that the settings ask for are read, if the run is not refused before
abbrev pub ReadsFor : Result InfoView (List ℕ) → Option (List ℕ) → Option (List ℕ) → Type 0
ReadsFor info old new = IfOk info (λ i. TakesUpTo (read_limit i.settings) old new)
