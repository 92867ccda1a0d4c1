use Rattle.std.proofs.Common.{◌∙◌, ap, sym}
use Rattle.info65.specs.Words.{by_address, names_said}
use Rattle.info65.proofs.Cases.{same_ok}
use Rattle.info65.proofs.groups.closed.Closed.ranges_and_names.Goals as goal

pub returns-clause-names : goal.returns-clause-names
returns-clause-names g c = sym (same_ok c.in_ok-names.ensures) ∙ ap by_address (c.self.invariant.named ∙ ap names_said c.self.view_is)
