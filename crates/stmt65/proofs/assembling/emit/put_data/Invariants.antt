use Rattle.std.proofs.Common.{take}
use Rattle.stmt65.specs.Words.{PutsAll, data_fragments}
use Rattle.stmt65.proofs.assembling.emit.put_data.Given as goal

abbrev pub invariant-data : goal.invariant-data
invariant-data g l = PutsAll l.fit l.names l.next (data_fragments (take l.datum-index l.items)) l.initial.out.items l.out.items
