use Rattle.std.proofs.Common.{◌≡◌, ◌+◌, drop}
use Rattle.std.specs.List.{prefix_len}
use Rattle.info65.specs.Words.{in_class}
use Rattle.info65.proofs.syntax.lexeme.run_len.Given as goal

abbrev pub invariant-loop-i : goal.invariant-loop-i
invariant-loop-i l = prefix_len (in_class l.class) l.bytes ≡ l.i + prefix_len (in_class l.class) (drop l.i l.bytes)
