-- Sets of lemmas, each by the function whose proof they make.
use Rattle.std.proofs.lemmas.Grind.{common_steps}
use Rattle.da65.proofs.Groups.GroupLemmas.{begins-true, group-fits, item-begins, item-goes-on}
use Rattle.da65.proofs.Groups.RoleLemmas.{role_some, role_there}
use Rattle.da65.proofs.Groups.ShapeLemmas.{group-index, limit-code}
use Rattle.da65.proofs.Groups.StepLemmas.{addresses-end, addresses-here, group_one, more-step}
use Rattle.da65.proofs.Names.BaseLemmas.{base_unnamed}
use Rattle.da65.proofs.NextLine.CommentLemmas.{given_told, some_printable}
use Rattle.da65.proofs.NextLine.HeadingLemmas.{group-headings, heading-comment, heading-first, heading-forward, heading-none, headings-bare, headings-end, headings-run, headings-unmarked, headings-unnamed, segment-no, segment-yes}
use Rattle.da65.proofs.NextLine.ListedGroupLemmas.{bare, has-bytes, is-inside, is-long, is-short, no-instruction, no-operands, of-role, statement-is}
use Rattle.da65.proofs.NextLine.MarkLemmas.{unmarked, unnamed-comment}
use Rattle.da65.proofs.NextLine.NextLemmas.{above-lines, beside-lines, constant-bare, constant-base, constant-comment, first-text, from-label, header-blank, lines-title, next-moved, next-plain, shown-start, takes-label, unlabelled-lines}
use Rattle.da65.proofs.Statements.EntryLemmas.{group_of_table}
use Rattle.da65.proofs.Statements.PrintLaws.{statement_prints}
use Rattle.std.proofs.lemmas.Bool.{true≢false}
use Rattle.std.proofs.lemmas.List.Elements.{All-from_get_or}

pub ruleset comment_at_rules = (given_told, some_printable, unmarked, unnamed-comment)

pub ruleset put_assignment_rules = (true≢false, constant-base)

pub ruleset put_constant_rules = (constant-bare, constant-comment, next-moved, next-plain)

pub ruleset are_bytes_rules = (All-from_get_or, common_steps)

pub ruleset group_at_rules = (begins-true, group-fits, item-begins, group-index, statement_prints)

pub ruleset put_code_line_rules = (bare, no-instruction)

pub ruleset put_group_line_rules = (heading-first, heading-none, headings-end, next-moved)

pub ruleset put_group_statement_rules = (is-short, common_steps)

pub ruleset put_label_rules = (above-lines, beside-lines, from-label, next-plain, takes-label, unlabelled-lines)

pub ruleset put_labelled_rules = (base_unnamed, from-label, unlabelled-lines)

pub ruleset put_statement_line_rules = (role_some, role_there, is-inside)

pub ruleset put_table_line_rules = (group_of_table, has-bytes, of-role, statement-is)

pub ruleset put_with_operand_rules = (is-long, no-operands)

pub ruleset put_with_operands_rules = (is-long, no-operands)

pub ruleset first_heading_rules = (group-headings, headings-unmarked, headings-unnamed)

pub ruleset may_have_head_rules = (headings-bare, headings-run)

pub ruleset put_heading_rules = (heading-comment, heading-forward)

pub ruleset put_segment_rules = (segment-no, segment-yes, first-text)

pub ruleset group_len_rules = (role_some, limit-code, group_one)

pub ruleset is_any_skipped_rules = (addresses-end, addresses-here)

pub ruleset more_at_rules = (item-goes-on, more-step)

pub ruleset lines_new_rules = (lines-title, common_steps)

pub ruleset is_shown_rules = (shown-start, common_steps)

pub ruleset put_next_group_rules = (next-moved, common_steps)

pub ruleset put_header_line_rules = (first-text, header-blank)
