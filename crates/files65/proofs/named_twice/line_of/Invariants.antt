use Rattle.std.proofs.Common.{length}
use Rattle.files65.proofs.named_twice.line_of.Given as goal

abbrev pub decreases-lines : goal.decreases-lines
decreases-lines l = length l.rest
