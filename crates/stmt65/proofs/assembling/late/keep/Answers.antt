use Rattle.std.proofs.Common.{arith, refl, ◌∙◌}
use Rattle.stmt65.proofs.PassLaws.{takes_late}
use Rattle.stmt65.proofs.assembling.late.keep.Goals as goal

pub returns : goal.returns
returns g c = λ s is faulty.
    takes_late c.args.work.now _ (record { source = c.args.late.source; number = c.args.late.number; address = c.args.late.address; cpu = c.args.late.cpu; count = c.args.late.count; front = c.saturating_sub.result }) s c.args.is_faulty
    c.requires refl refl c.in_ok-push.ensures.items (c.len-len.ensures ∙ c.args.work.now.settled.ok.0)
    (λ h. omega (arith, h, c.len-len.ensures, c.args.work.now.settled.ok.0, c.saturating_sub.ensures)) (record { at = is.at; cpu = is.cpu; above = is.above }) faulty
