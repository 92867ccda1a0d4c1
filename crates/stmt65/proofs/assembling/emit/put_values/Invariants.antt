use Rattle.std.proofs.Common.{take}
use Rattle.stmt65.specs.Words.{PutsAll, entry_fragments}
use Rattle.stmt65.proofs.assembling.emit.put_values.Given as goal

abbrev pub invariant-values : goal.invariant-values
invariant-values g l = PutsAll l.fit l.names l.next (entry_fragments l.directive (take l.value-index l.values)) l.initial.out.items l.out.items
