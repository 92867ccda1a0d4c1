use Rattle.std.proofs.Common.{◌≡◌, ◌∙◌, ◌++◌, ◌∷◌, [], ap, append_assoc, arith, drop, map, sym, ◌+◌}
use Rattle.std.specs.Prelude.{Ok}
use Rattle.std.proofs.lemmas.List.{append-nil, map-append}
use Rattle.info65.specs.Words.{SegmentView, group_seen, segment_part, segment_seen, segments_of}
use Rattle.info65.proofs.SegmentLemmas.{segments_next, segments_none}
use Rattle.info65.proofs.groups.segment_groups.segments_of.Goals as goal
use Rattle.info65.proofs.groups.segment_groups.segments_of.Goals.{in-Some+in_ok-segment+in_ok-push, in_default}

pub loop-group-preserved : goal.loop-group-preserved
loop-group-preserved g c =
    let gs = c.args.groups.now in
    let i = c.loop-group.group-index in
    let x = c.group-item.result in
    let rest = segments_of (map group_seen (drop (i + 1) gs)) in
    let so_far = map segment_seen c.loop-group.segments.items in
    let next = segments_next gs i x (omega arith) c.group-item.is in
    let part : map segment_seen c.match-segment_part.segments.items ≡ so_far ++ segment_part (group_seen x) = elim c.match-segment_part.branch [
      | in-Some+in_ok-segment+in_ok-push w ↦ ap (λ v. map segment_seen v.items) w.segments-is ∙ ap (λ l. map segment_seen l) w.in_ok-push.ensures.items ∙ map-append segment_seen c.loop-group.segments.items _ ∙ ap (λ (s : SegmentView). so_far ++ s ∷ []) w.in_ok-segment.ensures.value ∙ ap (λ l. so_far ++ l) w.in-Some.ensures
      | in_default w ↦ ap (λ v. map segment_seen v.items) w.segments-is ∙ sym (append-nil so_far) ∙ ap (λ l. so_far ++ l) w.in_default.ensures
    ] in
    ap (λ l. l ++ rest) part ∙ append_assoc so_far (segment_part (group_seen x)) rest ∙ ap (λ l. so_far ++ l) (sym next) ∙ c.loop-group.invariant

pub returns : goal.returns
returns g c =
    let so_far = map segment_seen c.loop-group.segments.items in
    let none = segments_none c.args.groups.now c.loop-group.group-index (omega arith) in
    ap (λ l. Ok l) (sym (sym (append-nil so_far) ∙ ap (λ l. so_far ++ l) (sym none) ∙ c.loop-group.invariant))
