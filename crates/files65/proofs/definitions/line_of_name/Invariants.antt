use Rattle.std.proofs.Common.{length}
use Rattle.files65.proofs.definitions.line_of_name.Given as goal

abbrev pub decreases-lines : goal.decreases-lines
decreases-lines l = length l.rest
