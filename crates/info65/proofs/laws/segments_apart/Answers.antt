use Rattle.info65.proofs.SegmentLemmas.{segments_apart}
use Rattle.info65.proofs.laws.segments_apart.Goals as goal

pub returns : goal.returns
returns c = segments_apart
