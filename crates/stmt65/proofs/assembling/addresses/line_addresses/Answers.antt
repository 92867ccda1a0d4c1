use Rattle.std.proofs.Common.{◌∙◌, refl}
use Rattle.std.proofs.lemmas.Result.{IfOk-weaker}
use Rattle.stmt65.specs.Words.{source_meaning}
use Rattle.stmt65.proofs.AddressLemmas.{lines_exact}
use Rattle.stmt65.proofs.assembling.addresses.line_addresses.Goals as goal

pub returns-clause-exact : goal.returns-clause-exact
returns-clause-exact g c =
    let s = c.args.source.now in
    IfOk-weaker c.to_vec.result _ _
    (λ found is. lines_exact s.language s.layout.now s.start s.text.now found.items (is ∙ c.in_ok-first_pass.ensures.ends refl) (source_meaning s) refl) c.to_vec.ensures
