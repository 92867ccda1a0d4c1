use Rattle.std.proofs.Common.{◌≡◌, length}
use Rattle.map65.specs.Words.{HasTaken}
use Rattle.map65.proofs.devices.writing.write_whole.Given as goal

abbrev pub invariant-writes : goal.invariant-writes
invariant-writes g l = record {
  taken : HasTaken (g.W.Sink.taken l.fn.out) (g.W.Sink.taken l.out) l.bytes l.rest;
  faults : g.W.Sink.faults l.out ≡ g.W.Sink.faults l.fn.out;
}

abbrev pub decreases-writes : goal.decreases-writes
decreases-writes g l = length l.rest
