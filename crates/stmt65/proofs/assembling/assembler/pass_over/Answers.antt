use Rattle.std.proofs.Common.{arith}
use Rattle.stmt65.specs.Words.{held_after}
use Rattle.stmt65.proofs.assembling.assembler.pass_over.Goals as goal

pub returns : goal.returns
unfolding held_after
returns g c =
    let place = rw c.all-above.ensures.names at c.place-placed.ensures in
    record { state = grind arith; work = rw (← place) (rw c.all-above.ensures.names at c.in_ok-outcome.ensures) }
