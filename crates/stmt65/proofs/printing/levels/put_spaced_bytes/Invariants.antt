use Rattle.std.specs.Prelude.{◌*◌, ◌++◌, ◌+◌, ◌≡◌, length, take}
use Rattle.std.specs.List.{flat_map}
use Rattle.stmt65.specs.Words.{spaced_byte}
use Rattle.stmt65.proofs.printing.levels.put_spaced_bytes.Given as goal

abbrev pub invariant-loop-byte : goal.invariant-loop-byte
invariant-loop-byte l = (l.out.items ≡ l.initial.out.items ++ flat_map spaced_byte (take l.byte-index l.bytes)) × (length l.out.items ≡ length l.initial.out.items + 3 * l.byte-index)
