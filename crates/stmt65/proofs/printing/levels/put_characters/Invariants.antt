use Rattle.std.specs.Prelude.{◌++◌, ◌+◌, ◌≡◌, length, map, take}
use Rattle.stmt65.specs.Words.{character}
use Rattle.stmt65.proofs.printing.levels.put_characters.Given as goal

abbrev pub invariant-loop-byte : goal.invariant-loop-byte
invariant-loop-byte l = (l.out.items ≡ l.initial.out.items ++ map character (take l.byte-index l.bytes)) × (length l.out.items ≡ length l.initial.out.items + l.byte-index)
