use Rattle.std.proofs.Common.{◌≡◌, length}
use Rattle.map65.specs.Words.{HasTaken}
use Rattle.da65.specs.Words.{text_of}
use Rattle.da65.proofs.listing.lines.write_lines.Given as goal

abbrev pub invariant-lines : goal.invariant-lines
invariant-lines g l = record {
  taken : HasTaken (g.W.Sink.taken l.fn.out) (g.W.Sink.taken l.out) (text_of l.initial.lines) (text_of l.lines);
  faults : g.W.Sink.faults l.out ≡ g.W.Sink.faults l.fn.out;
}

abbrev pub decreases-lines : goal.decreases-lines
decreases-lines g l = length l.lines
