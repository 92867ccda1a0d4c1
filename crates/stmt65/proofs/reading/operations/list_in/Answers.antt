use Rattle.std.proofs.Common.{arith, rules}
use Rattle.stmt65.proofs.ListLemmas.{list_more, list_next}
use Rattle.stmt65.proofs.reading.operations.list_in.Goals as goal

pub returns-then-not-eat : goal.returns-then-not-eat
returns-then-not-eat g c = grind (arith, list_more g.T.Listed.seen (g.T.Listed.first_in c.args.rule) c.reads.found.items c.args.parts.now c.reads.parts)

pub reads-preserved : goal.reads-preserved
reads-preserved g c = rw c.in_ok-push.ensures.items (list_next g.T.Listed.seen (g.T.Listed.first_in c.args.rule) c.reads.found.items c.args.parts.now c.reads.parts c.next_in.new.parts c.eat.new.self c.in-Some.item c.reads.invariant c.in-Some.ensures.is c.in-Some.ensures.fewer (search rules) (search rules))
