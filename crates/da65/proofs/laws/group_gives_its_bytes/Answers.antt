use Rattle.da65.proofs.Statements.GroupStands.{group_gives_its_bytes}
use Rattle.da65.proofs.laws.group_gives_its_bytes.Goals as goal

pub returns : goal.returns
returns c = group_gives_its_bytes
