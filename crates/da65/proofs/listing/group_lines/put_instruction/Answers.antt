use Rattle.da65.proofs.NextLine.ListedGroupLemmas.{is-long, with-operands}
use Rattle.da65.proofs.listing.group_lines.put_instruction.Goals as goal

pub written_size-size-requires : goal.written_size-size-requires
written_size-size-requires g c = is-long _ _ c.requires.item

pub put_group_statement-requires-clause-statement : goal.put_group_statement-requires-clause-statement
put_group_statement-requires-clause-statement g c =
    rw (c.written_size-size.ensures, c.opcodes.ensures) (with-operands c.args.group c.args.op _ c.requires.item c.requires.operands)
