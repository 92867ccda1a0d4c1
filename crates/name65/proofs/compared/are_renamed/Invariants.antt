use Rattle.name65.specs.Written.{IsRenamed, left_of, scope_seen}
use Rattle.name65.proofs.compared.are_renamed.Given as goal

abbrev pub invariant-parts : goal.invariant-parts
invariant-parts l = IsRenamed (scope_seen l.fn.plan) l.left → IsRenamed (scope_seen l.fn.plan) l.fn.lines

abbrev pub decreases-parts : goal.decreases-parts
decreases-parts l = left_of l.fn.plan.language l.left
