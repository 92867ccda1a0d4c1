use Rattle.std.proofs.Common.{◌≡◌}
use Rattle.da65.specs.Words.{group_left}
use Rattle.da65.proofs.listing.group_lines.put_group_line.Given as goal

abbrev pub invariant-loop-number : goal.invariant-loop-number
invariant-loop-number g l = group_left l.group.listed.now l.group.index l.number ≡ group_left l.group.listed.now l.group.index l.from
