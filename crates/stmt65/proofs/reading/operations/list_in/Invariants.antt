use Rattle.std.proofs.Common.{length, map}
use Rattle.stmt65.proofs.ListLemmas.{IsFound}
use Rattle.stmt65.proofs.reading.operations.list_in.Given as goal

abbrev pub invariant-reads : goal.invariant-reads
invariant-reads g l = IsFound (g.T.Listed.first_in l.fn.rule) (map g.T.Listed.seen l.found.items) l.parts l.fn.parts

abbrev pub decreases-reads : goal.decreases-reads
decreases-reads g l = length l.parts
