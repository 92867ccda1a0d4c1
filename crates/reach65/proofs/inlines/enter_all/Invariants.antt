use Rattle.std.proofs.Common.{◌≡◌, drop, length}
use Rattle.reach65.specs.Words.{AreFirsts}
use Rattle.reach65.proofs.inlines.enter_all.Given as goal

abbrev pub invariant-tags : goal.invariant-tags
invariant-tags l = record {
  room : length l.firsts ≡ 65536;
  found : AreFirsts l.tags (drop l.k l.tags) l.firsts;
}
