use Rattle.info65.proofs.RangeLemmas.{ranges_apart}
use Rattle.info65.proofs.laws.ranges_apart.Goals as goal

pub returns : goal.returns
returns c = ranges_apart
