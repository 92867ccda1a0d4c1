use Rattle.std.proofs.Common.{◌≡◌, ◌++◌, drop, map}
use Rattle.info65.specs.Words.{group_seen, segment_seen, segments_of}
use Rattle.info65.proofs.groups.segment_groups.segments_of.Given as goal

abbrev pub invariant-loop-group : goal.invariant-loop-group
invariant-loop-group g l = map segment_seen l.segments.items ++ segments_of (map group_seen (drop l.group-index l.groups)) ≡ segments_of (map group_seen l.groups)
