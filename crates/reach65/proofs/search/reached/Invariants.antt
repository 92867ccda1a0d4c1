use Rattle.map65.specs.Words.{is_marked}
use Rattle.reach65.proofs.ReachedLemmas.{IsSearch, left_to_do}
use Rattle.reach65.proofs.search.reached.Given as goal

abbrev pub invariant-search : goal.invariant-search
invariant-search l = IsSearch l.steps l.entries (is_marked l.marks) l.todo.items

abbrev pub decreases-search : goal.decreases-search
decreases-search l = left_to_do (is_marked l.marks) l.todo.items
