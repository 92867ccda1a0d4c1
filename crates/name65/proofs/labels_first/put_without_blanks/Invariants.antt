use Rattle.std.proofs.Common.{◌≡◌, ◌++◌, take}
use Rattle.name65.specs.Reordered.{without_blanks}
use Rattle.name65.proofs.labels_first.put_without_blanks.Given as goal

abbrev pub invariant-bytes : goal.invariant-bytes
invariant-bytes l = l.out.items ≡ l.fn.out.items ++ without_blanks (take l.byte-index l.line)
