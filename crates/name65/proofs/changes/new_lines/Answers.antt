use Rattle.std.proofs.Common.{◌≡◌, [], ◌∷◌, append_assoc}
use Rattle.std.proofs.lemmas.List.{append-nil}
use Rattle.stmt65.specs.Words.{ends_left}
use Rattle.name65.specs.Changes.{next_line, no_line}
use Rattle.name65.proofs.changes.new_lines.Goals as goal

pub lines-init : goal.lines-init
lines-init c = λ texts tails from. rw (c.new.ensures.items, c.new-2.ensures.items, ← c.from-at.ensures, ← c.iter-left.ensures) from

pub lines-preserved : goal.lines-preserved
lines-preserved c = λ texts tails from.
    let line = c.in_ok-put_line.ensures in
    let given : ends_left c.lines.left ≡ c.in-Some-next.end ∷ ends_left c.next.new.self = c.in-Some-next.ensures.steps in
    rw (line.whole, line.tail_is, append_assoc, append_assoc) ((rw (given, c.in-Some.ensures.0) at c.lines.invariant) _ _ (next_line line.becomes from))

pub returns : goal.returns
returns c = rw (append-nil, append-nil) at (c.lines.invariant [] [] (rw c.in_default.ensures no_line))
