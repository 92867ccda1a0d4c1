use Rattle.std.proofs.Common.{◌∙◌, sym}
use Rattle.da65.proofs.NextLine.NextLemmas.{then-empty, then-group}
use Rattle.da65.proofs.listing.group_lines.put_statement.Goals as goal

pub returns-then-ends : goal.returns-then-ends
returns-then-ends g c =
    let is = c.requires in
    let line = c.put_statement_line-ends.ensures in
    rw is.len_is (then-empty _ _ _ _ is.start (sym line.ends_is ∙ c.if-ends.true) line.text_is)

pub returns-else-ends : goal.returns-else-ends
returns-else-ends g c =
    let is = c.requires in
    let line = c.put_statement_line-ends.ensures in
    rw is.len_is (then-group _ _ _ _ is.start (sym line.ends_is ∙ c.if-ends.false) line.text_is)
