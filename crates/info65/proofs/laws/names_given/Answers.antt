use Rattle.info65.proofs.NamesLemmas.{names_given}
use Rattle.info65.proofs.laws.names_given.Goals as goal

pub returns : goal.returns
returns c = names_given
