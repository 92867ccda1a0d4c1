use Rattle.map65.proofs.ItemLaws.{item_law}
use Rattle.map65.proofs.laws.item_law.Goals as goal

pub returns : goal.returns
returns c = item_law
