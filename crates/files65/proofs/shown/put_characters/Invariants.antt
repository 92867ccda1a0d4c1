use Rattle.std.proofs.Common.{◌≡◌, ◌++◌, map, take}
use Rattle.files65.specs.Shown.{shown_byte}
use Rattle.files65.proofs.shown.put_characters.Given as goal

abbrev pub invariant-characters : goal.invariant-characters
invariant-characters l = l.out.items ≡ l.initial.out.items ++ map shown_byte (take l.byte-index l.line)
