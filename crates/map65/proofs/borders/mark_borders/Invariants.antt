use Rattle.std.proofs.Common.{take}
use Rattle.map65.specs.Words.{Changes, is_border, with_border}
use Rattle.map65.proofs.borders.mark_borders.Given as goal

abbrev pub invariant-loop-i : goal.invariant-loop-i
invariant-loop-i g l = Changes with_border (is_border (take l.i l.info.segments)) l.fn.cells l.cells
