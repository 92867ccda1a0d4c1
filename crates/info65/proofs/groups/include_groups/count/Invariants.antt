use Rattle.std.proofs.Common.{◌≡◌, ◌+◌, ◌≤◌, drop, length, map}
use Rattle.info65.specs.Words.{group_seen, includes_of}
use Rattle.info65.proofs.groups.include_groups.count.Given as goal

abbrev pub invariant-loop-group : goal.invariant-loop-group
invariant-loop-group g l = record {
  same : l.count + length (includes_of (map group_seen (drop l.group-index l.groups))) ≡ length (includes_of (map group_seen l.groups));
  bound : l.count ≤ l.group-index;
}
