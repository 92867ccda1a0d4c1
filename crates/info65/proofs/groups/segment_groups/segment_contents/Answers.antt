use Rattle.std.proofs.Common.{◌∙◌, ◌<◌, arith, map, sym}
use Rattle.info65.specs.Words.{SegmentView, assignment_seen, parts_seen}
use Rattle.info65.proofs.SegmentLemmas.{meets_marked, segment_apart, segment_meets, segment_ordered}
use Rattle.info65.proofs.groups.segment_groups.segment_contents.Goals as goal

pub returns-then-is_marked-clause-fault : goal.returns-then-is_marked-clause-fault
returns-then-is_marked-clause-fault c = λ segments m.
    let s : SegmentView = parts_seen c.in-Ok.segment in
    let ordered = segment_ordered (map assignment_seen c.args.given.now) s c.in-Ok.ensures.value in
    let low : s.last < 0x1_0000 = omega (arith, c.in-Ok.ensures.room) in
    sym (segment_meets segments s _ c.in-Ok.ensures.value (sym (meets_marked segments c.args.table.now s m ordered low) ∙ sym c.is_marked.ensures ∙ c.if-is_marked.true))

pub returns-else-is_marked-clause-fault : goal.returns-else-is_marked-clause-fault
returns-else-is_marked-clause-fault c = λ segments m.
    let s : SegmentView = parts_seen c.in-Ok.segment in
    let ordered = segment_ordered (map assignment_seen c.args.given.now) s c.in-Ok.ensures.value in
    let low : s.last < 0x1_0000 = omega (arith, c.in-Ok.ensures.room) in
    sym (segment_apart segments s _ c.in-Ok.ensures.value (sym (meets_marked segments c.args.table.now s m ordered low) ∙ sym c.is_marked.ensures ∙ c.if-is_marked.false))
