use Rattle.std.proofs.Common.{◌≡◌, false, take}
use Rattle.std.specs.List.{list_any}
use Rattle.da65.specs.Words.{has_comment}
use Rattle.da65.proofs.listing.marks.has_comment.Given as goal

abbrev pub invariant-loop-at : goal.invariant-loop-at
invariant-loop-at g l = list_any has_comment (take l.at l.info.names) ≡ false
