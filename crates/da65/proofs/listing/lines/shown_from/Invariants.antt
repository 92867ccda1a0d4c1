use Rattle.std.proofs.Common.{◌≡◌}
use Rattle.da65.specs.Words.{IsGroupPlace, groups_left}
use Rattle.da65.proofs.listing.lines.shown_from.Given as goal

abbrev pub invariant-loop-at : goal.invariant-loop-at
invariant-loop-at g l = record {
  place : IsGroupPlace l.listed l.at;
  lines : groups_left l.listed l.at ≡ groups_left l.listed l.from;
}
