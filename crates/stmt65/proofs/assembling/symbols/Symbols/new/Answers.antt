use Rattle.stmt65.proofs.SymbolLaws.{index_empty}
use Rattle.stmt65.proofs.assembling.symbols.Symbols.new.Goals as goal

pub invariant_of-result : goal.invariant_of-result
invariant_of-result g c = index_empty _ _ c.new-2.result c.new.ensures.items c.in_ok-free_slots.ensures.some c.in_ok-free_slots.ensures.free c.new-2.ensures.empty
