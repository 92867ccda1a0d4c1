use Rattle.stmt65.proofs.TextLemmas.{means_bytes}
use Rattle.stmt65.proofs.laws.meaning_laws.means_its_lines.Goals as goal

pub returns-clause-bytes : goal.returns-clause-bytes
returns-clause-bytes c = means_bytes
