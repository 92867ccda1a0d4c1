use Rattle.da65.proofs.Statements.Reassembly.{target_is_in_range}
use Rattle.da65.proofs.laws.target_is_in_range.Goals as goal

pub returns : goal.returns
returns c = target_is_in_range
