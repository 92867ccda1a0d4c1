use Rattle.std.proofs.Common.{◌≡◌, drop}
use Rattle.stmt65.specs.Words.{first_of}
use Rattle.stmt65.proofs.assembling.line_faults.first_of.Given as goal

abbrev pub invariant-loop-kind : goal.invariant-loop-kind
invariant-loop-kind l = first_of (drop l.kind-index l.tests) ≡ first_of l.tests
