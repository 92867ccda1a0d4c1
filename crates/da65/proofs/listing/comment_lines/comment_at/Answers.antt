use Rattle.std.proofs.Common.{◌∙◌, sym}
use Rattle.da65.proofs.NextLine.CommentLemmas.{given_told, some_printable}
use Rattle.da65.proofs.NextLine.MarkLemmas.{unmarked}
use Rattle.da65.proofs.listing.comment_lines.comment_at.Goals as goal

pub returns-then-not-is_marked-clause-comment : goal.returns-then-not-is_marked-clause-comment
returns-then-not-is_marked-clause-comment g c = sym ((unmarked _ (sym c.is_marked.ensures ∙ c.if-not-is_marked.true)).comments _)

pub returns-clause-printable : goal.returns-clause-printable
returns-clause-printable g c = some_printable c.args.listed.now _ _ (rw (← c.info.ensures.info) c.info.ensures.names) (given_told _ c.args.listed.now _ _ c.given_comment.ensures c.info.ensures.info)
