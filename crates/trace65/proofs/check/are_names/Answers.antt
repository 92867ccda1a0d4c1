use Rattle.std.proofs.Common.{arith, rules}
use Rattle.trace65.specs.Check.{none}
use Rattle.trace65.proofs.CheckLemmas.{given_next, label_next}
use Rattle.trace65.proofs.check.are_names.Goals as goal

pub names-init : goal.names-init
names-init c = record { given = search rules; label = search rules; merged = none }

pub names-preserved : goal.names-preserved
names-preserved c = grind (arith, given_next, label_next)
