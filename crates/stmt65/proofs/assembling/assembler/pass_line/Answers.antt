use Rattle.std.proofs.Common.{refl}
use Rattle.stmt65.specs.Words.{fault_at, held_after, state_in}
use Rattle.std.proofs.lemmas.Result.{on_ok_weaker}
use Rattle.stmt65.proofs.assembling.assembler.pass_line.Goals as goal

pub returns-in-None-2 : goal.returns-in-None-2
unfolding held_after fault_at
returns-in-None-2 g c =
    let none = rw c.in-None-2.is at c.in_ok-source.ensures in
    on_ok_weaker c.keep.result (λ keeps. rw none (record {
      state = refl;
      work = keeps (state_in c.args.pass.now) (record { at = refl; cpu = c.cpu.ensures; above = c.len.ensures }) (λ h all first. refl);
    })) c.keep.ensures
