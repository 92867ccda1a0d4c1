use Rattle.std.proofs.Common.{◌≡◌, ◌++◌, length}
use Rattle.text65.specs.Lines.{text_lines}
use Rattle.name65.specs.Reordered.{others_in, places_in}
use Rattle.name65.proofs.labels_first.content_of.Given as goal

abbrev pub invariant-lines : goal.invariant-lines
invariant-lines l = record {
  places : l.out.places.items ++ places_in l.fn.language (text_lines l.rest) ≡ places_in l.fn.language (text_lines l.fn.text);
  others : l.out.others.items ++ others_in l.fn.language (text_lines l.rest) ≡ others_in l.fn.language (text_lines l.fn.text);
}

abbrev pub decreases-lines : goal.decreases-lines
decreases-lines l = length l.rest
