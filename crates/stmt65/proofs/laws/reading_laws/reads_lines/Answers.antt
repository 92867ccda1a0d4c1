use Rattle.stmt65.proofs.LineLemmas.{reads_lines}
use Rattle.stmt65.proofs.laws.reading_laws.reads_lines.Goals as goal

pub returns : goal.returns
returns c = reads_lines
