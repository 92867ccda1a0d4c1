use Rattle.std.proofs.Common.{◌≡◌, drop, []}
use Rattle.std.specs.Prelude.{Ok}
use Rattle.stmt65.specs.Words.{coded_late, with_front, work_end}
use Rattle.stmt65.proofs.assembling.assembler.second_pass.Given as goal

abbrev pub invariant-late : goal.invariant-late
invariant-late g l = record {
  same : with_front l.out.items (coded_late l.names l.initial.state.layout.now (drop l.late-index l.work.late.items) l.rest (Ok [])) ≡ work_end l.names l.initial.state.layout.now l.work;
  layout : l.state.layout.now ≡ l.initial.state.layout.now;
}
