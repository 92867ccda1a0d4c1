use Rattle.std.proofs.Common.{◌-◌}
use Rattle.da65.specs.Words.{AreUnnamed}
use Rattle.da65.proofs.listing.heading_lines.is_unnamed.Given as goal

abbrev pub invariant-loop-address : goal.invariant-loop-address
invariant-loop-address g l = AreUnnamed l.group.listed.now l.first (l.address - l.first)
