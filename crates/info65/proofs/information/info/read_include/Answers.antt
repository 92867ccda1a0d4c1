use Rattle.info65.proofs.Cases.{same_ok}
use Rattle.info65.proofs.IncludedLemmas.{read_included}
use Rattle.info65.proofs.information.info.read_include.Goals as goal

pub returns : goal.returns
returns g c = read_included c.args.info.now c.in_ok-of.field-0 c.in_ok-read.read c.set_names.new.self c.in_ok-names.names c.args.index c.args.bytes.now (same_ok c.in_ok-of.ensures) c.in_ok-read.ensures (same_ok c.in_ok-names.ensures.names) c.set_names.ensures
