use Rattle.std.proofs.Common.{List, Some, ap}
use Rattle.stmt65.specs.Words.{Fragment, coding}
use Rattle.stmt65.proofs.assembling.coding.coding.Goals as goal

pub returns-in-Segment : goal.returns-in-Segment
unfolding coding
returns-in-Segment g c = rw c.in-Segment.is (ap (λ (fs : List Fragment). Some fs) (c.gap.ensures c.args.above.now))
