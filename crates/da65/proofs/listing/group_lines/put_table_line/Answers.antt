use Rattle.std.proofs.Common.{[]}
use Rattle.map65.specs.Words.{opcodes, role_of}
use Rattle.da65.proofs.Statements.EntryLemmas.{group_of_table}
use Rattle.da65.proofs.NextLine.ListedGroupLemmas.{of-role}
use Rattle.da65.proofs.listing.group_lines.put_table_line.Goals as goal

pub table_statement-statement-requires-clause-shape : goal.table_statement-statement-requires-clause-shape
table_statement-statement-requires-clause-shape g c =
    let of = c.args.group in
    let m = of.listed.now in
    rw (c.role_inside-role.ensures, c.map-map.ensures.map)
    (group_of_table (opcodes m) [] (role_of m.info of.address) of.bytes.now c.requires.table (of-role of c.requires.group))
