use Rattle.std.proofs.Common.{◌≡◌, ◌-◌, ◌≤◌, vec_len, length}
use Rattle.std.specs.Io.KnownBytes.{Consumes}
use Rattle.map65.proofs.devices.taking.take_up_to.Given as goal

abbrev pub invariant-reads : goal.invariant-reads
invariant-reads g l = record {
  taken : Consumes (g.R.Source.left l.fn.input) (g.R.Source.left l.input) l.bytes.items;
  bound : length l.bytes.items ≤ l.limit;
  faults : g.R.Source.faults l.input ≡ g.R.Source.faults l.fn.input;
}

abbrev pub decreases-reads : goal.decreases-reads
decreases-reads g l = l.limit - vec_len l.bytes
