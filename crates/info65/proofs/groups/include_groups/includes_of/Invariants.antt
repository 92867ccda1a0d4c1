use Rattle.std.proofs.Common.{◌≡◌, ◌++◌, drop, map}
use Rattle.info65.specs.Words.{group_seen, includes_of}
use Rattle.info65.proofs.groups.include_groups.includes_of.Given as goal

abbrev pub invariant-loop-group : goal.invariant-loop-group
invariant-loop-group g l = l.includes.items ++ includes_of (map group_seen (drop l.group-index l.groups)) ≡ includes_of (map group_seen l.groups)
