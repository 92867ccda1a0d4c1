use Rattle.std.proofs.Common.{◌≡◌, ◌<◌, ◌≤◌, ℕ, not}
use Rattle.as65.specs.Words.{differs}
use Rattle.as65.proofs.stretches.first_where.Given as goal

abbrev pub invariant-bytes : goal.invariant-bytes
invariant-bytes l = (i : ℕ) → l.from ≤ i → i < l.at → differs l.one l.other i ≡ not l.differ
