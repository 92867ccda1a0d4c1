use Rattle.stmt65.specs.Words.{place_of}
use Rattle.stmt65.proofs.PassLaws.{codes}
use Rattle.stmt65.proofs.assembling.late.code_placed.Goals as goal

pub returns : goal.returns
returns g c = codes _ (place_of c.args.above.now c.args.placed.now) c.in_ok-fit.fit _ _ _ c.in_ok-fit.ensures c.fault_by.ensures
