use Rattle.info65.proofs.FileLaws.{accepts_files}
use Rattle.info65.proofs.laws.accepts_files.Goals as goal

pub returns : goal.returns
returns c = accepts_files
