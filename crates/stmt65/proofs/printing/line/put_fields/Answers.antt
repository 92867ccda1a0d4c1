use Rattle.stmt65.proofs.printing.line.put_fields.Goals as goal

pub returns-in-Const-clause-fields : goal.returns-in-Const-clause-fields
returns-in-Const-clause-fields c = rw c.in-Const.is c.put_const.ensures
