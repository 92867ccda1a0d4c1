use Rattle.da65.proofs.Groups.ShapeLemmas.{groups_are_groups}
use Rattle.da65.proofs.laws.groups_are_groups.Goals as goal

pub returns : goal.returns
returns c = groups_are_groups
