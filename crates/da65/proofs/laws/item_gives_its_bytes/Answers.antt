use Rattle.da65.proofs.Statements.GroupStands.{item_gives_its_bytes}
use Rattle.da65.proofs.laws.item_gives_its_bytes.Goals as goal

pub returns : goal.returns
returns c = item_gives_its_bytes
