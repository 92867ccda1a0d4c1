use Rattle.info65.proofs.IndexLemmas.{no_index}
use Rattle.info65.proofs.lookup.index.Index.new.Goals as goal

pub invariant_of-result : goal.invariant_of-result
invariant_of-result g c = rw c.new-names.ensures.items (no_index _ _ c.new-numbers.ensures c.new-texts.ensures.slotted c.new-texts.ensures.others)
