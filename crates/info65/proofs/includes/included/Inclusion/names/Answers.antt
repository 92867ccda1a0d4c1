use Rattle.std.proofs.Common.{subst}
use Rattle.info65.specs.Words.{AreNames, InfoView}
use Rattle.info65.proofs.NamesLemmas.{sorted_names}
use Rattle.info65.proofs.includes.included.Inclusion.names.Goals as goal

pub returns-clause-sound : goal.returns-clause-sound
returns-clause-sound g c = subst (λ (i : InfoView). AreNames i.names) c.self.view_is (sorted_names c.self.inside.names c.self.invariant)
