use Rattle.std.proofs.Common.{◌≡◌, drop, map}
use Rattle.info65.specs.Words.{global_given, group_seen, value_in}
use Rattle.info65.proofs.groups.group_values.global_value.Given as goal

abbrev pub invariant-loop-group : goal.invariant-loop-group
invariant-loop-group g l = value_in l.attribute (global_given (map group_seen (drop l.group-index l.groups))) ≡ value_in l.attribute (global_given (map group_seen l.groups))
