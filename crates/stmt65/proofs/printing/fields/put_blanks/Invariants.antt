use Rattle.std.proofs.Common.{◌≡◌, ◌+◌, ◌++◌, length, replicate}
use Rattle.stmt65.proofs.printing.fields.put_blanks.Given as goal

abbrev pub invariant-eights : goal.invariant-eights
invariant-eights l = record {
  items : l.out.items ++ replicate l.left 32 ≡ l.fn.out.items ++ replicate l.count 32;
  len : length l.out.items + l.left ≡ length l.fn.out.items + l.count;
}

abbrev pub decreases-eights : goal.decreases-eights
decreases-eights l = l.left
