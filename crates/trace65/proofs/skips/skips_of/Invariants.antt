use Rattle.trace65.specs.Words.{AreSkips}
use Rattle.trace65.proofs.skips.skips_of.Given as goal

abbrev pub invariant-chosen : goal.invariant-chosen
invariant-chosen l = AreSkips l.steps.map l.reached l.found.items
