use Rattle.std.proofs.Common.{◌+◌, ◌<◌}
use Rattle.map65.specs.Words.{AreOnePiece, end_of}
use Rattle.map65.proofs.marking.size_at.Given as goal

abbrev pub invariant-loop-i : goal.invariant-loop-i
invariant-loop-i g l = record {
  inside : l.address + l.i < end_of l.mapped.image;
  piece : AreOnePiece l.mapped l.address (l.address + l.i);
}
