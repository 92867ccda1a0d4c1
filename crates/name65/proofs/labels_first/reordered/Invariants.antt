use Rattle.std.proofs.Common.{length}
use Rattle.name65.proofs.labels_first.reordered.Given as goal

abbrev pub decreases-lines : goal.decreases-lines
decreases-lines l = length l.rest
