use Rattle.std.proofs.Common.{arith, rules}
use Rattle.map65.specs.Words.{is_marked}
use Rattle.reach65.proofs.ReachedLemmas.{search_smaller}
use Rattle.reach65.proofs.search.reached.Goals as goal

pub search-smaller-then-not-get : goal.search-smaller-then-not-get
search-smaller-then-not-get c =
    search_smaller c.args.steps.now c.args.entries.now (is_marked c.search.marks) c.search.todo.items c.pop.new.self.items c.in-Some.address (search rules) c.search.invariant
    (is_marked c.set.new.self) c.push_leads.new.todo.items (omega arith) (search rules) c.set.ensures (search rules)
