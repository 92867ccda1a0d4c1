use Rattle.std.proofs.Common.{◌≡◌, ◌++◌, drop}
use Rattle.as65.specs.Words.{moves_after, moves_in}
use Rattle.as65.proofs.moves.moves_in.Given as goal

abbrev pub invariant-labels : goal.invariant-labels
invariant-labels l = l.found.items ++ moves_after l.last (drop l.label-index l.labels) ≡ moves_in l.labels
