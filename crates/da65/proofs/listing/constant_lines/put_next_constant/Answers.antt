use Rattle.da65.proofs.NextLine.NextLemmas.{constant_onward}
use Rattle.da65.proofs.listing.constant_lines.put_next_constant.Goals as goal

pub returns : goal.returns
returns g c = constant_onward _ _ _ _ _ c.in_ok-address.ensures.lines c.put_constant.ensures
