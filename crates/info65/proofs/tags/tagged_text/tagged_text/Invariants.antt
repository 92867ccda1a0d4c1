use Rattle.std.proofs.Common.{length}
use Rattle.info65.proofs.tags.tagged_text.tagged_text.Given as goal

abbrev pub decreases-lines : goal.decreases-lines
decreases-lines g l = length l.left
