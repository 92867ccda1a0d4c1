use Rattle.std.proofs.Common.{length}
use Rattle.conformance.proofs.tests.library.longest_line.Given as goal

abbrev pub decreases-lines : goal.decreases-lines
decreases-lines l = length l.lines
