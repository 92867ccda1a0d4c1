use Rattle.std.proofs.Common.{arith, take, ℕ, length-drop}
use Rattle.std.proofs.lemmas.List.{length-take}
use Rattle.map65.proofs.ReadLemmas.{took_up_to}
use Rattle.map65.proofs.devices.taking.take_up_to.Goals as goal

pub returns-in_err-extend_from_slice-clause-bound :
    goal.returns-in_err-extend_from_slice-clause-bound
returns-in_err-extend_from_slice-clause-bound g c = took_up_to _ _ _ c.reads.bytes.items (take c.in_ok-n.n c.read_some.new.buf) _ c.reads.invariant.taken c.in_ok-n.ensures.bytes.0
    (omega (arith, length-take {A = ℕ}, length-drop {A = ℕ}, c.in_ok-n.ensures.bound, c.read_some.auto.buf, c.min-room.ensures))
