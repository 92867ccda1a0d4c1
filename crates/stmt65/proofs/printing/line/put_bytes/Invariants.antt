use Rattle.std.specs.Prelude.{◌*◌, ◌++◌, ◌+◌, ◌≡◌, length, take}
use Rattle.std.specs.List.{flat_map}
use Rattle.stmt65.specs.Words.{hex2, next_text}
use Rattle.stmt65.proofs.printing.line.put_bytes.Given as goal

abbrev pub invariant-loop-byte : goal.invariant-loop-byte
invariant-loop-byte l = (l.out.items ≡ l.initial.out.items ++ flat_map (next_text hex2) (take l.byte-index l.rest)) × (length l.out.items ≡ length l.initial.out.items + 4 * l.byte-index)
