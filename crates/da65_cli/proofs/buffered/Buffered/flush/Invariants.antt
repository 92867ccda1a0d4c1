use Rattle.std.proofs.Common.{◌≡◌, length}
use Rattle.std.specs.Io.KnownBytes.{Keeps}
use Rattle.da65_cli.specs.Code.Buffered.{buffered_taken}
use Rattle.da65_cli.proofs.buffered.Buffered.flush.Given as goal

abbrev pub invariant-writes : goal.invariant-writes
invariant-writes g l = record {
  taken : Keeps (buffered_taken g.W.Sink.taken l.fn.self) (buffered_taken g.W.Sink.taken l.self);
  faults : g.W.Sink.faults l.self.out ≡ g.W.Sink.faults l.fn.self.out;
}

abbrev pub decreases-writes : goal.decreases-writes
decreases-writes g l = length l.self.block.bytes
