use Rattle.std.proofs.Common.{◌≡◌, ◌-◌, ◌≤◌}
use Rattle.map65.specs.Words.{AreMarkedBelow, AreNamed, is_own, item_start}
use Rattle.map65.proofs.marking.mark_items.Given as goal

abbrev pub invariant-items : goal.invariant-items
invariant-items g l = record {
  low : l.mapped.image.start ≤ l.at;
  begins : item_start l.mapped l.at ≡ l.at;
  marked : AreMarkedBelow l.mapped l.at l.cells;
  own : AreNamed (is_own l.mapped.info.names) l.cells;
}

abbrev pub decreases-items : goal.decreases-items
decreases-items g l = l.end - l.at
