use Rattle.std.proofs.Common.{◌≡◌, ◌+◌, ◌-◌, ◌||◌}
use Rattle.info65.specs.Words.{any_in}
use Rattle.info65.proofs.lookup.marks.is_marked.Given as goal

abbrev pub invariant-loop-address : goal.invariant-loop-address
invariant-loop-address l = (l.marked || any_in l.table l.address (l.fn.last + 1 - l.address)) ≡ any_in l.table l.fn.first (l.fn.last + 1 - l.fn.first)
