use Rattle.stmt65.specs.Words.{line_of, remarks_seen, statement_seen}
use Rattle.stmt65.proofs.ReadBack.{prints_as}
use Rattle.stmt65.proofs.printing.line.put_line.Goals as goal

pub returns-clause-reads : goal.returns-clause-reads
unfolding line_of
returns-clause-reads c = λ names label.
    rw (c.push.ensures.items, c.put_after.ensures.items, c.put_fields.ensures.fields.items, c.of.ensures, c.start_line.ensures.items, c.clear.ensures)
    (prints_as c.args.columns.now (statement_seen c.args.statement.now) (remarks_seen c.args.remarks.now) c.requires.printable c.put_fields.ensures.width names c.requires.label label)
