use Rattle.std.proofs.Common.{◌++◌, ℕ, List, length}
use Rattle.text65.specs.Lines.{text_lines}
use Rattle.stmt65.specs.Words.{ends_left}
use Rattle.name65.specs.Changes.{LinesBecome}
use Rattle.name65.specs.Written.{scope_seen}
use Rattle.name65.proofs.changes.new_lines.Given as goal

-- with what the lines that are left become it is what all become
abbrev pub invariant-lines : goal.invariant-lines
invariant-lines l =
    (texts tails : List ℕ) → LinesBecome (scope_seen l.fn.plan) l.at (text_lines l.rest) (ends_left l.left) texts tails
    → LinesBecome (scope_seen l.fn.plan) l.fn.source.start (text_lines l.fn.source.text.now) l.fn.ends (l.out.lines.items ++ texts) (l.out.tail.items ++ tails)

abbrev pub decreases-lines : goal.decreases-lines
decreases-lines l = length l.rest
