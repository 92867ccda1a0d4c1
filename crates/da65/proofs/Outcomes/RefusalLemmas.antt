-- What a refused run writes.
use Rattle.std.proofs.Common.{ℕ, List, Option}
use Rattle.std.specs.Prelude.{IfSome, None, Some, Result, Ok, Err}
use Rattle.std.proofs.KnownBytes.{Appends-nil}
use Rattle.da65.specs.Words.{Messages, RunFault, Status, Tells, Write, Writes, refusal_with}
use Rattle.da65.specs.declared.runs.outcome.RunFault.TheVariants.{Memory}
use Rattle.da65.specs.declared.runs.outcome.Status.TheVariants.{Refused}

message_alone : (result : Result Status RunFault) (message : List ℕ) (out old new : Option (List ℕ)) → Tells result Refused message old new → Writes result (refusal_with message) out out old new
message_alone (Ok status) message out old new told = (told.0, Appends-nil out, told.1)
message_alone (Err Memory) message out old new told = absurd told
message_alone (Err Write) message out old new told = absurd told
message_alone (Err Messages) message out old new told = (Appends-nil out, told.0, told.1)

-- a run that is refused writes its message alone, whatever is left of its input
pub refused_writes : (result : Result Status RunFault) (message : List ℕ) (left out old new : Option (List ℕ)) → Tells result Refused message old new → IfSome left (λ bytes. Writes result (refusal_with message) out out old new)
refused_writes result message None out old new told = tt
refused_writes result message (Some bytes) out old new told = message_alone result message out old new told
