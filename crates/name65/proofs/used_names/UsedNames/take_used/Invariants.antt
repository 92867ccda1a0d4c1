use Rattle.std.proofs.Common.{length}
use Rattle.name65.proofs.used_names.UsedNames.take_used.Given as goal

abbrev pub decreases-lines : goal.decreases-lines
decreases-lines l = length l.rest
