use Rattle.stmt65.proofs.TextLemmas.{means_fault}
use Rattle.stmt65.proofs.laws.meaning_laws.means_first_fault.Goals as goal

pub returns : goal.returns
returns c = means_fault
