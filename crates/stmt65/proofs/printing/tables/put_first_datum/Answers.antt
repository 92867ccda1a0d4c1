use Rattle.stmt65.proofs.Lemmas.{arith, sym, take_rest, ◌∙◌}
use Rattle.stmt65.proofs.TableTexts.{single_put, stretch_put}
use Rattle.stmt65.proofs.printing.tables.put_first_datum.Goals as goal

pub returns-then-len-eq0-clause-items : goal.returns-then-len-eq0-clause-items
returns-then-len-eq0-clause-items c =
    single_put c.args.bytes.now _ c.args.out.now.items c.put_hex2.new.out.items c.requires.some (sym c.stretch_len-len.ensures.value ∙ c.if-len-eq0.true) (take_rest c.args.bytes.now 1) c.put_hex2.ensures

pub returns-clause-items : goal.returns-clause-items
returns-clause-items c =
    stretch_put c.args.bytes.now c.split_at.result.0.now c.split_at.result.1.now c.args.out.now.items c.push-2.new.self.items c.stretch_len-len.result c.stretch_len-len.ensures.value (omega arith) c.split_at.ensures.front c.split_at.ensures.back
    (rw (c.put.ensures, c.push.ensures.items) at c.push-2.ensures.items)
