use Rattle.std.proofs.Common.{refl}
use Rattle.stmt65.specs.Words.{fault_at}
use Rattle.stmt65.proofs.assembling.late.code_late.Goals as goal

pub returns-in_default-clause-codes : goal.returns-in_default-clause-codes
unfolding fault_at
returns-in_default-clause-codes g c = rw c.in_default.is (record { finds = refl; adds = tt })
