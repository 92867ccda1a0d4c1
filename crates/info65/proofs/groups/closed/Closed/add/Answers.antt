use Rattle.std.proofs.Common.{◌≡◌, ◌∙◌, ◌++◌, ap, ap₂, map, sym}
use Rattle.std.specs.Prelude.{List, None}
use Rattle.info65.specs.Words.{GroupView, NameView, RangeSpec, assignment_seen, closing_fault, group_seen, groups_seen, kept_part}
use Rattle.info65.proofs.IndexLemmas.{name_fine, names_more}
use Rattle.info65.proofs.KeptLemmas.{kept_more, marked_alike, ranged_alike}
use Rattle.info65.proofs.RangeLemmas.{ranges_more, some_ordered}
use Rattle.info65.proofs.SegmentLemmas as segments
use Rattle.info65.proofs.groups.closed.Closed.add.Goals as goal

pub add_optional-requires : goal.add_optional-requires
add_optional-requires g c =
    let gs : List GroupView = c.self.inside.groups in
    let given = map assignment_seen c.args.group.given.items in
    let fine : closing_fault gs c.args.group.kind given ≡ None = rw c.self.view_is c.requires.fine in
    rw c.self.invariant.named (name_fine gs c.args.group.kind given _ c.requires.contents.name fine)

pub add_range-requires-clause-ordered : goal.add_range-requires-clause-ordered
add_range-requires-clause-ordered g c = some_ordered (group_seen c.args.group) c.args.contents.range c.requires.contents.range

pub mark_segment-requires-clause-ordered : goal.mark_segment-requires-clause-ordered
mark_segment-requires-clause-ordered g c = segments.some_ordered (group_seen c.args.group) c.args.contents.segment c.requires.contents.segment

pub invariant_of-self-2 : goal.invariant_of-self-2
invariant_of-self-2 g c =
    let gs : List GroupView = c.self.inside.groups in
    let one = group_seen c.args.group in
    let said = c.requires.contents in
    let room = c.make_room.ensures in
    rw c.add.ensures (record {
      again = c.keep.ensures ∙ ap (λ l. groups_seen l ++ kept_part one) room.kept ∙ ap (λ l. l ++ kept_part one) c.self.invariant.again ∙ sym (kept_more gs one);
      said = c.add_range.ensures.done ∙ ap₂ (λ (x y : List RangeSpec). x ++ y) (room.ranges ∙ c.self.invariant.said) said.range ∙ sym (ranges_more gs one);
      named = c.in_ok-add_optional.ensures.done ∙ ap₂ (λ (x y : List NameView). x ++ y) c.self.invariant.named said.name ∙ sym (names_more gs one);
      ranged = c.add_range.ensures.marked one said.range gs (ranged_alike _ _ _ room.ranged c.self.invariant.ranged);
      marks = c.mark_segment.ensures one said.segment gs (marked_alike _ _ _ room.segmented c.self.invariant.marks);
    })
