use Rattle.std.specs.Prelude.{◌*◌, ◌++◌, ◌+◌, ◌≡◌, length, take}
use Rattle.std.specs.List.{flat_map}
use Rattle.stmt65.specs.Words.{digits2}
use Rattle.stmt65.proofs.printing.tables.put_all.Given as goal

abbrev pub invariant-loop-byte : goal.invariant-loop-byte
invariant-loop-byte l = (l.out.items ≡ l.initial.out.items ++ flat_map digits2 (take l.byte-index l.bytes)) × (length l.out.items ≡ length l.initial.out.items + 2 * l.byte-index)
