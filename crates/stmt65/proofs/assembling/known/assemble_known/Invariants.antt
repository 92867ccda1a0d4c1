use Rattle.std.proofs.Common.{length, take}
use Rattle.stmt65.specs.Words.{state_of}
use Rattle.stmt65.proofs.KnownLaws.{Known}
use Rattle.stmt65.proofs.assembling.known.assemble_known.Given as goal

abbrev pub invariant-lines : goal.invariant-lines
invariant-lines g l = Known l.fn.source l.fn.names (state_of l.state (take l.count l.fn.names)) l.rest l.out.items

abbrev pub decreases-lines : goal.decreases-lines
decreases-lines g l = length l.rest
