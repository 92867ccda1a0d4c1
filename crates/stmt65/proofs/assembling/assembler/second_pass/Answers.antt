use Rattle.std.proofs.Common.{arith, inl, ◌∙◌}
use Rattle.stmt65.proofs.PassLaws.{late_end, late_faulty, late_next}
use Rattle.stmt65.proofs.assembling.assembler.second_pass.Goals as goal

pub returns-in-Some : goal.returns-in-Some
returns-in-Some g c =
    let codes = rw (c.in-Some.is, c.late.invariant.layout) at c.in_ok-kind.ensures.codes in
    inl (late_faulty c.args.names.now c.args.state.now.layout.now c.args.work.now.late.items c.late.late-index c.late-item.result c.late.rest.now c.late.out.items _ _ _ _ _
    (rw c.deref-late-items.ensures.value at c.late-test.true) (rw c.deref-late-items.ensures.value at c.late-item.is) c.late.invariant.same codes)

pub late-preserved : goal.late-preserved
late-preserved g c =
    let codes = rw (c.in_default.is, c.late.invariant.layout) at c.in_ok-kind.ensures.codes in
    record {
      same = late_next c.args.names.now c.args.state.now.layout.now c.args.work.now.late.items c.late.late-index c.late-item.result c.late.rest.now c.late.out.items _ _ _ _ _ _
          (rw c.deref-late-items.ensures.value at c.late-test.true) (rw c.deref-late-items.ensures.value at c.late-item.is) c.late.invariant.same c.cut.ensures.front c.cut.ensures.rest c.in_ok-extend_from_slice.ensures.items codes;
      layout = c.in_ok-kind.ensures.layout ∙ c.late.invariant.layout;
    }

pub returns : goal.returns
returns g c =
    late_end c.args.names.now c.args.state.now.layout.now c.args.work.now.late.items c.late.late-index c.late.rest.now c.late.out.items _ _
    (omega (arith, (rw c.deref-late-items.ensures.value at c.late-test.false))) c.late.invariant.same c.in_ok-extend_from_slice-2.ensures.items
