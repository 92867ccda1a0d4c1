use Rattle.std.proofs.Common.{length}
use Rattle.files65.proofs.forms.cpu_at.Given as goal

abbrev pub decreases-lines : goal.decreases-lines
decreases-lines l = length l.rest
