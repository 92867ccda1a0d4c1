use Rattle.std.proofs.Common.{◌≡◌, ◌-◌, ◌≤◌}
use Rattle.map65.specs.Words.{Takes}
use Rattle.map65.proofs.devices.taking.pass_over.Given as goal

abbrev pub invariant-passes : goal.invariant-passes
invariant-passes g l = record {
  taken : Takes (l.count - l.left) (g.R.Source.left l.fn.input) (g.R.Source.left l.input);
  bound : l.left ≤ l.count;
  faults : g.R.Source.faults l.input ≡ g.R.Source.faults l.fn.input;
}

abbrev pub decreases-passes : goal.decreases-passes
decreases-passes g l = l.left
