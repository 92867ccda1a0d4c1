use Rattle.std.proofs.Common.{◌-◌}
use Rattle.map65.specs.Words.{is_marked}
use Rattle.reach65.proofs.RangesLemmas.{AreRangesBelow}
use Rattle.reach65.proofs.ranges.ranges_of.Given as goal

abbrev pub invariant-pieces : goal.invariant-pieces
invariant-pieces g l = AreRangesBelow l.image (is_marked l.taken) l.first l.ranges.items

abbrev pub decreases-pieces : goal.decreases-pieces
decreases-pieces g l = l.end - l.first
