use Rattle.std.proofs.Common.{◌≡◌, drop}
use Rattle.text65.specs.Lines.{text_lines}
use Rattle.files65.proofs.lines.after_lines.Given as goal

abbrev pub invariant-lines : goal.invariant-lines
invariant-lines l = drop l.left (text_lines l.rest) ≡ drop l.fn.count (text_lines l.fn.text)

abbrev pub decreases-lines : goal.decreases-lines
decreases-lines l = l.left
