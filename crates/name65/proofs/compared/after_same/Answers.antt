use Rattle.std.proofs.Common.{refl}
use Rattle.name65.specs.Written.{scope_seen}
use Rattle.name65.proofs.ComparedLemmas.{part_stays}
use Rattle.name65.proofs.compared.after_same.Goals as goal

pub returns : goal.returns
returns c = part_stays (scope_seen c.args.plan.now) c.args.lines _ c.args.old c.in-Some.text.now c.requires c.in-Some.ensures c.in-Some-after_front.ensures c.in_ok-after_part.ensures refl
