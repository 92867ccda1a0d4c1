use Rattle.std.proofs.Common.{◌≡◌, take}
use Rattle.stmt65.specs.Words.{coding_len, data_fragments, held}
use Rattle.stmt65.proofs.assembling.emit.data_len.Given as goal

abbrev pub invariant-data : goal.invariant-data
invariant-data l = l.len ≡ held (coding_len (data_fragments (take l.datum-index l.items)))
