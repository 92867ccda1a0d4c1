use Rattle.std.proofs.Common.{◌≡◌, drop, map}
use Rattle.info65.specs.Words.{assignment_seen, value_in}
use Rattle.info65.proofs.groups.group_values.value_in.Given as goal

abbrev pub invariant-loop-each : goal.invariant-loop-each
invariant-loop-each l = value_in l.attribute (map assignment_seen (drop l.each-index l.given)) ≡ value_in l.attribute (map assignment_seen l.given)
