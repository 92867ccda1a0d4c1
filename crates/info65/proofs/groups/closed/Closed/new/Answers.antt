use Rattle.std.proofs.Common.{refl}
use Rattle.info65.specs.Words.{kept_of, names_said, ranges_of, segments_of}
use Rattle.info65.proofs.IndexLemmas.{no_ranges}
use Rattle.info65.proofs.SegmentLemmas.{no_marks}
use Rattle.info65.proofs.groups.closed.Closed.new.Goals as goal

pub invariant_of-result : goal.invariant_of-result
unfolding kept_of names_said ranges_of segments_of
invariant_of-result g c = rw (c.new-groups.ensures, c.new-kept.ensures.items, c.new-ranges.ensures.items, c.new-ranged.ensures.items, c.new-segmented.ensures.items) (record { again = refl; said = refl; named = c.new-names.ensures; ranged = no_ranges; marks = no_marks })
