use Rattle.std.proofs.Common.{◌≤◌}
use Rattle.map65.specs.Words.{IsLaid, MapView, entry_start}
use Rattle.map65.proofs.naming.entry_start_of.Given as goal

abbrev pub invariant-back : goal.invariant-back
invariant-back l = record {
  below : l.at ≤ l.address;
  from : (m : MapView) → IsLaid m l.cells → entry_start m l.address ≤ l.at;
}

abbrev pub decreases-back : goal.decreases-back
decreases-back l = l.at
