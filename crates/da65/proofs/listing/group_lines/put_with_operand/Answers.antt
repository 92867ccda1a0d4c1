use Rattle.std.proofs.Common.{◌∙◌, ◌+◌, ◌≤◌, ap, length, subst, sym}
use Rattle.std.specs.Option.{option_map}
use Rattle.isa65.specs.Words.{row_len}
use Rattle.da65.specs.Words.{names_of, row_operands}
use Rattle.stmt65.specs.Words.{expr_seen}
use Rattle.stmt65.specs.Views as view
use Rattle.da65.proofs.NextLine.ListedGroupLemmas.{is-long, no-operands}
use Rattle.da65.proofs.listing.group_lines.put_with_operand.Goals as goal

pub put_bytes_line-requires-clause-bytes : goal.put_bytes_line-requires-clause-bytes
put_bytes_line-requires-clause-bytes g c =
    let of = c.args.group in
    no-operands of c.args.op c.requires
    (ap (λ o. option_map (λ e. view.one e) (option_map expr_seen o)) (sym c.in-None.is) ∙ ap (option_map (λ e. view.one e)) c.operand_expr.ensures
    ∙ ap (λ r. row_operands (names_of of.listed.now) r (of.address + length of.bytes.now) of.bytes.now) (sym (sym c.row.ensures ∙ c.in-One.is)))

pub operand_expr-requires-clause-all : goal.operand_expr-requires-clause-all
operand_expr-requires-clause-all g c =
    subst (λ r. row_len r ≤ length c.args.group.bytes.now) (sym c.row.ensures ∙ c.in-One.is) (is-long _ _ c.requires)
