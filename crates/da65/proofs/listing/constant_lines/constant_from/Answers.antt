use Rattle.std.proofs.Common.{◌∙◌}
use Rattle.da65.proofs.NextLine.ConstantLemmas.{first_constant}
use Rattle.da65.proofs.listing.constant_lines.constant_from.Goals as goal

pub returns-clause-lines : goal.returns-clause-lines
returns-clause-lines g c = first_constant _ _ _ _ (c.in_default.ensures.lines ∙ c.after_listed.ensures.lines) c.constant_before-2.ensures.lines
