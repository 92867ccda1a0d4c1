use Rattle.std.proofs.Common.{◌≡◌, ◌++◌, flat_map, take}
use Rattle.as65.specs.Words.{move_line}
use Rattle.as65.proofs.moves.put_moves.Given as goal

abbrev pub invariant-moves : goal.invariant-moves
invariant-moves l = l.out.items ≡ l.initial.out.items ++ flat_map move_line (take l.label-index l.moves)
