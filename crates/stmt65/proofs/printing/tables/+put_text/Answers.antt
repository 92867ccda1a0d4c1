use Rattle.stmt65.proofs.Lemmas.{arith, sym, ◌∙◌}
use Rattle.stmt65.proofs.TableTexts.{text_step, text_end}
use Rattle.stmt65.proofs.printing.tables.+put_text.Goals as goal

pub returns-then-not-is_empty-clause-text : goal.returns-then-not-is_empty-clause-text
returns-then-not-is_empty-clause-text t c = let first = c.put_first_datum-rest in record {
  items = text_step first.result.now first.new.out.items _ _ (sym c.is_empty.ensures ∙ c.if-not-is_empty.true) first.ensures.items (rw c.push.ensures.items at c.put_text.ensures.text.items);
  len = omega arith;
}

pub returns-else-not-is_empty-clause-text : goal.returns-else-not-is_empty-clause-text
returns-else-not-is_empty-clause-text t c = let first = c.put_first_datum-rest in record {
  items = text_end first.result.now first.new.out.items _ (sym c.is_empty.ensures ∙ c.if-not-is_empty.false) first.ensures.items;
  len = omega arith;
}
