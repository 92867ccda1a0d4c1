use Rattle.std.proofs.Common.{false, true}
use Rattle.da65.proofs.Groups.GroupLemmas.{first_place}
use Rattle.da65.proofs.NextLine.NextLemmas.{constant-end, match-moved, next-plain}
use Rattle.da65.proofs.listing.lines.put_constants.Goals as goal

pub returns-then-after_another : goal.returns-then-after_another
returns-then-after_another g c =
    next-plain _ _ _ _ _ _ (rw c.if-after_another.true (constant-end _ _ true c.in_default.ensures)) c.put_blank.ensures c.style.ensures.style (first_place _)

pub returns : goal.returns
returns g c = match-moved _ _ _ _ _ (rw c.if-after_another.false (constant-end _ _ false c.in_default.ensures)) c.put_next_group.ensures

pub put_next_group-requires : goal.put_next_group-requires
put_next_group-requires g c = first_place _
