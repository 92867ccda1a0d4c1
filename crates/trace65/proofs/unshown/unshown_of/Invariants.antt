use Rattle.std.proofs.Common.{◌≡◌}
use Rattle.std.specs.List.{filter}
use Rattle.map65.specs.Words.{addresses}
use Rattle.trace65.specs.Words.{is_unshown}
use Rattle.trace65.proofs.unshown.unshown_of.Given as goal

abbrev pub invariant-image : goal.invariant-image
invariant-image l = l.found.items ≡ filter (is_unshown l.shown l.steps.map l.reached) (addresses l.k l.start)
