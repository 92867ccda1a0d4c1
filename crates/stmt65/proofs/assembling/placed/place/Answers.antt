use Rattle.std.proofs.Common.{◌∙◌, refl}
use Rattle.stmt65.specs.Words.{place_in, source_of, state_of}
use Rattle.stmt65.proofs.HeldLemmas.{form_coded, fragments_coded, next_coded}
use Rattle.stmt65.proofs.assembling.placed.place.Goals as goal

pub returns : goal.returns
unfolding place_in
returns g c =
    let s = state_of c.args.state.now c.args.above.now in
    let source = source_of c.args.source.now in
    let coded = c.coding_in-coded.ensures in
    let next = c.saturating_add.ensures ∙ next_coded s source c.coding_in-coded.result c.length_of.result coded c.length_of.ensures in
    rw (fragments_coded s source c.coding_in-coded.result coded, form_coded s source c.coding_in-coded.result coded, next, c.here_in.ensures, c.has_unknown_cpu.ensures, c.definition_in.ensures, c.is_past_start.ensures c.args.above.now) refl
