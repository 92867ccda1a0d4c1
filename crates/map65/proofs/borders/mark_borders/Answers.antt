use Rattle.std.proofs.Common.{◌≡◌, ◌∙◌, List, ap, arith, get_or, length, subst, sym}
use Rattle.std.proofs.lemmas.List.{get_or-map, length-map, take_all}
use Rattle.info65.specs.Words.{SegmentView, segment_seen}
use Rattle.map65.specs.Words.{Changes, borders, is_border, with_border}
use Rattle.map65.proofs.CellLemmas.{with_border_again}
use Rattle.map65.proofs.ChangeLemmas.{changes_more, changes_none}
use Rattle.map65.proofs.borders.mark_borders.Goals as goal

pub loop-i-init : goal.loop-i-init
unfolding is_border
loop-i-init g c = changes_none with_border c.args.cells.now c.requires

pub loop-i-preserved : goal.loop-i-preserved
unfolding is_border
loop-i-preserved g c =
    let segments = c.args.info.now.segments in
    let items = c.segments-segments.result.now in
    let s = c.index-segments-i.result in
    let all : length segments ≡ length items = sym (ap length c.segments-segments.ensures.segments) ∙ length-map items segment_seen in
    let here : get_or segments c.loop-i.i (segment_seen s) ≡ segment_seen s =
    sym (ap (λ (l : List SegmentView). get_or l c.loop-i.i (segment_seen s)) c.segments-segments.ensures.segments)
    ∙ get_or-map segment_seen items c.loop-i.i s (segment_seen s) c.loop-i-test.true
    ∙ ap segment_seen (sym c.index-segments-i.is) in
    changes_more with_border with_border_again borders segments c.loop-i.i (segment_seen s) c.args.cells.now c.loop-i.cells c.mark_segment.new.cells (omega (arith, all, c.loop-i-test.true)) c.loop-i.invariant
    (subst (λ (v : SegmentView). Changes with_border (borders v) c.loop-i.cells c.mark_segment.new.cells) (sym here) c.mark_segment.ensures)

pub returns : goal.returns
returns g c =
    let segments = c.args.info.now.segments in
    let all : length segments ≡ length c.segments-segments.result.now = sym (ap length c.segments-segments.ensures.segments) ∙ length-map c.segments-segments.result.now segment_seen in
    record {
      sound = c.segments-segments.ensures.sound;
      marked = subst (λ (l : List SegmentView). Changes with_border (is_border l) c.args.cells.now c.loop-i.cells) (take_all c.loop-i.i segments (omega (arith, all, c.loop-i-test.false, c.loop-i.auto.i-end))) c.loop-i.invariant;
    }
