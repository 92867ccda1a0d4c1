use Rattle.std.proofs.Common.{◌-◌, ◌≡◌, ◌≤◌}
use Rattle.da65.specs.Words.{constants}
use Rattle.da65.proofs.listing.constant_lines.constant_before.Given as goal

abbrev pub invariant-addresses : goal.invariant-addresses
invariant-addresses g l = record {
  same : constants l.listed (65536 - l.from) l.from ≡ constants l.listed (65536 - l.at) l.at;
  bound : l.at ≤ l.end;
}

abbrev pub decreases-addresses : goal.decreases-addresses
decreases-addresses g l = l.end - l.at
