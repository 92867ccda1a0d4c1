use Rattle.std.proofs.Common.{◌≡◌, ◌+◌, ◌++◌, length}
use Rattle.stmt65.specs.Words.{readings, source_readings}
use Rattle.as65.specs.Words.{labels_in}
use Rattle.as65.proofs.moves.labels_in.Given as goal

abbrev pub invariant-lines : goal.invariant-lines
invariant-lines l = record {
  found : l.found.items ++ labels_in l.fn.inner l.number l.at (readings l.fn.source.language l.rest) l.left
      ≡ labels_in l.fn.inner 1 l.fn.source.start (source_readings l.fn.source) l.fn.ends;
  number : l.number + length l.left ≡ 1 + length l.fn.ends;
}

abbrev pub decreases-lines : goal.decreases-lines
decreases-lines l = length l.rest
