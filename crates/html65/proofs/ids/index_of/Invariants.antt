use Rattle.std.proofs.Common.{◌≡◌, ◌∷◌, [], length}
use Rattle.html65.specs.Links.{are_ascending, texts}
use Rattle.html65.proofs.ids.index_of.Given as goal

abbrev pub invariant-ids : goal.invariant-ids
invariant-ids l = are_ascending l.least (texts l.rest) ≡ are_ascending (0 ∷ 0 ∷ 0 ∷ 0 ∷ []) (texts l.ids)

abbrev pub decreases-ids : goal.decreases-ids
decreases-ids l = length l.rest
