use Rattle.std.proofs.Common.{◌∙◌, refl}
use Rattle.std.specs.Prelude.{Ok}
use Rattle.stmt65.proofs.AddressLemmas.{lines_exact}
use Rattle.stmt65.proofs.assembling.addresses.assemble_lines.Goals as goal

pub returns-clause-ends : goal.returns-clause-ends
returns-clause-ends g c =
    lines_exact c.args.source.now.language c.args.source.now.layout.now c.args.source.now.start c.args.source.now.text.now c.first_pass.new.ends (c.in_ok-state.ensures.ends refl) (Ok c.in_ok-bytes.bytes.items) (c.in_ok-state.ensures.passed.means ∙ c.in_ok-bytes.ensures)
