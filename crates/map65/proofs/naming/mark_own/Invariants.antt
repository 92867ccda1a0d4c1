use Rattle.std.proofs.Common.{take}
use Rattle.map65.specs.Words.{Changes, is_own, with_name}
use Rattle.map65.proofs.naming.mark_own.Given as goal

abbrev pub invariant-loop-i : goal.invariant-loop-i
invariant-loop-i g l = Changes with_name (is_own (take l.i l.info.names)) l.fn.cells l.cells
