use Rattle.std.proofs.Common.{arith, rules, take, ℕ, length-drop}
use Rattle.std.proofs.lemmas.List.{length-take}
use Rattle.map65.proofs.ReadLemmas.{takes_more}
use Rattle.map65.proofs.devices.taking.pass_over.Goals as goal

pub passes-preserved : goal.passes-preserved
passes-preserved g c =
    record {
      taken = takes_more _ _ _ (take c.in_ok-n.n c.read_some.new.buf) _ _ c.passes.invariant.taken c.in_ok-n.ensures.bytes.0
          (omega (arith, length-take {A = ℕ}, length-drop {A = ℕ}, c.in_ok-n.ensures.bound, c.read_some.auto.buf, c.min-room.ensures, c.passes.invariant.bound));
      bound = omega arith;
      faults = search rules;
    }
