use Rattle.std.proofs.Common.{◌∙◌, rules}
use Rattle.html65.proofs.LinkLemmas.{quoted_none}
use Rattle.html65.proofs.faults.quoted_after.Goals as goal

pub returns : goal.returns
returns c = quoted_none _ _ (search rules) ∙ c.rests.invariant
