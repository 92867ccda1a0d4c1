use Rattle.std.proofs.Common.{ap, arith}
use Rattle.stmt65.specs.Words.{State, source_readings, state_in}
use Rattle.stmt65.proofs.AddressLemmas.{addresses_step, found_lines, held_addresses}
use Rattle.stmt65.proofs.PassLaws.{at_start, at_next}
use Rattle.stmt65.proofs.assembling.assembler.first_pass.Goals as goal

pub lines-init : goal.lines-init
lines-init g c = record {
  at = at_start c.args.source.now _ c.in_ok-pass.ensures.start c.in_ok-pass.ensures.state c.in_ok-pass.ensures.work;
  shorter = omega arith;
  ends = λ _. rw c.requires (ap (λ (s : State). held_addresses s (source_readings c.args.source.now)) c.in_ok-pass.ensures.state);
}

pub lines-preserved : goal.lines-preserved
lines-preserved g c = record {
  at = at_next c.args.source.now c.lines.number c.lines.pass c.pass_line.new.pass c.lines.rest.now c.in-Some.line.now c.in-Some.after.now c.lines.invariant.at c.in-Some.ensures.0 c.in_ok-pass_line.ensures;
  shorter = omega (arith, c.in-Some.ensures.1);
  ends = λ wanted.
      addresses_step c.args.source.now.language (state_in c.lines.pass) _ c.lines.rest.now c.in-Some.line.now c.in-Some.after.now c.lines.ends _ _ (c.lines.invariant.ends wanted) c.in-Some.ensures.0 c.in_ok-pass_line.ensures.state (rw wanted at c.in_ok-take_down.ensures);
}

pub returns-clause-ends : goal.returns-clause-ends
returns-clause-ends g c = λ wanted.
    found_lines c.args.source.now.language c.args.source.now.layout.now c.args.source.now.start (state_in c.lines.pass) c.args.source.now.text.now c.lines.rest.now c.lines.ends (omega arith) (c.lines.invariant.ends wanted) c.in_default.ensures
