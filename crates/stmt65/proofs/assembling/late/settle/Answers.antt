use Rattle.std.proofs.Common.{◌∙◌, ap, refl, sym}
use Rattle.std.specs.Prelude.{take}
use Rattle.stmt65.specs.Words.{Settles, place_of}
use Rattle.stmt65.proofs.PassLaws.{is_faulty, is_left, settles_now}
use Rattle.stmt65.proofs.assembling.late.settle.Goals as goal

pub returns-then-is_faultless : goal.returns-then-is_faultless
returns-then-is_faultless g c = settles_now c.args.work.now _ (place_of c.args.above.now c.args.placed.now) c.in_ok-fit.fit c.args.above.now c.if-work.false refl refl refl c.in_ok-fit.ensures (rw c.if-is_faultless.true at c.is_faultless.ensures.none)

pub returns-then-is_faulty : goal.returns-then-is_faulty
unfolding Settles
returns-then-is_faulty g c = (
  is_left c.args.work.now (record { settled = c.truncate.new.self; late = c.args.work.now.late; mark = c.args.work.now.mark; is_over = c.args.work.now.is_over }) (place_of c.args.above.now c.args.placed.now) c.in_ok-fit.fit c.args.above.now c.put_placed.new.out.items c.if-work.false refl refl refl
      c.in_ok-fit.ensures (c.truncate.ensures.items ∙ ap (λ n. take n c.put_placed.new.out.items) (c.len-len.ensures ∙ c.args.work.now.settled.ok.0)),
  is_faulty (place_of c.args.above.now c.args.placed.now) c.in_ok-fit.fit c.args.above.now _ _ c.in_ok-fit.ensures (rw c.if-is_faultless.false at c.is_faultless.ensures.some) (sym c.if-is_faulty.true ∙ c.is_faulty.ensures),
)

pub returns : goal.returns
unfolding Settles
returns g c =
    is_left c.args.work.now (record { settled = c.truncate.new.self; late = c.args.work.now.late; mark = c.args.work.now.mark; is_over = c.args.work.now.is_over }) (place_of c.args.above.now c.args.placed.now) c.in_ok-fit.fit c.args.above.now c.put_placed.new.out.items c.if-work.false refl refl refl
    c.in_ok-fit.ensures (c.truncate.ensures.items ∙ ap (λ n. take n c.put_placed.new.out.items) (c.len-len.ensures ∙ c.args.work.now.settled.ok.0))
