use Rattle.std.proofs.Common.{List, subst, sym, ℕ}
use Rattle.map65.specs.Words.{AreCellsOf, MapView}
use Rattle.map65.proofs.NamingLemmas.{described}
use Rattle.map65.proofs.map.Map.cells.Goals as goal

pub returns : goal.returns
returns g c =
    let m : MapView = record { info = c.self.inside.info.now; image = c.self.inside.image.now } in
    let cells = c.self.inside.cells.items in
    let here : AreCellsOf c.args.self.now cells = subst (λ (v : MapView). AreCellsOf v cells) c.self.view_is (described m cells c.self.invariant.are_cells) in
    subst (λ (l : List ℕ). AreCellsOf c.args.self.now l) (sym c.as_slice.ensures.value) here
