use Rattle.std.proofs.Common.{◌∙◌, arith, ap, inl, inr, length, sym}
use Rattle.std.proofs.lemmas.List.{nil_from_length}
use Rattle.map65.specs.Words.{ImageView, MapView}
use Rattle.da65.proofs.Reentry.{byte-told, first-told, known-back, known-end, known-first, known-next, known-past, never-entered, none-seen}
use Rattle.da65.proofs.runs.segment_reentry.is_entered_again.Goals as goal

pub returns-then-is_empty : goal.returns-then-is_empty
returns-then-is_empty g c = grind (arith, none-seen, never-entered, nil_from_length)

pub loop-at-init : goal.loop-at-init
loop-at-init g c = known-first c.args.map.now _ c.none-entered.ensures.last c.none-entered.ensures.names

pub loop-at-preserved-then-is_in_run : goal.loop-at-preserved-then-is_in_run
loop-at-preserved-then-is_in_run g c =
    let here = byte-told c.args.map.now _ _ _ _ (sym c.image-image.ensures.image) c.bytes-at-end.ensures.bytes c.start-start.ensures c.loop-at-test.true in
    known-past c.args.map.now _ _ _ here (inl (sym c.is_in_run.ensures ∙ c.if-is_in_run.true)) c.loop-at.invariant

pub loop-at-preserved-then-is_skipped : goal.loop-at-preserved-then-is_skipped
loop-at-preserved-then-is_skipped g c =
    let here = byte-told c.args.map.now _ _ _ _ (sym c.image-image.ensures.image) c.bytes-at-end.ensures.bytes c.start-start.ensures c.loop-at-test.true in
    known-past c.args.map.now _ _ _ here (inr (sym c.is_skipped.ensures ∙ c.if-is_skipped.true)) c.loop-at.invariant

pub returns-then-branch : goal.returns-then-branch
returns-then-branch g c =
    let here = byte-told c.args.map.now _ _ _ _ (sym c.image-image.ensures.image) c.bytes-at-end.ensures.bytes c.start-start.ensures c.loop-at-test.true in
    let first = first-told c.args.map.now _ _ _ here (sym c.is_in_run.ensures ∙ c.if-is_in_run.false) (sym c.is_skipped.ensures ∙ c.if-is_skipped.false) c.segment_at.ensures in
    known-back c.args.map.now _ _ _ _ _ first c.if-branch.true c.loop-at.invariant c.in_ok-add.ensures

pub loop-at-preserved : goal.loop-at-preserved
loop-at-preserved g c =
    let here = byte-told c.args.map.now _ _ _ _ (sym c.image-image.ensures.image) c.bytes-at-end.ensures.bytes c.start-start.ensures c.loop-at-test.true in
    let first = first-told c.args.map.now _ _ _ here (sym c.is_in_run.ensures ∙ c.if-is_in_run.false) (sym c.is_skipped.ensures ∙ c.if-is_skipped.false) c.segment_at.ensures in
    known-next c.args.map.now _ _ _ _ _ first c.if-branch.false c.loop-at.invariant c.in_ok-add.ensures

pub returns : goal.returns
returns g c =
    let count = ap length (c.bytes-at-end.ensures.bytes ∙ ap (λ (i : ImageView). i.bytes) c.image-image.ensures.image) in
    known-end c.args.map.now _ _ (omega (arith, count, c.loop-at-test.false, c.loop-at.auto.at-end)) c.loop-at.invariant
