use Rattle.std.proofs.Common.{◌+◌, ◌∙◌, ap, arith, length}
use Rattle.map65.specs.Words.{ImageView, is_referenced_below, with_name}
use Rattle.map65.proofs.ChangeLemmas.{changes_none}
use Rattle.map65.proofs.NamingLemmas.{laid_keeps, names_keep, referenced_end, referenced_next}
use Rattle.map65.proofs.naming.mark_targets.Goals as goal

pub loop-k-init : goal.loop-k-init
loop-k-init g c = changes_none with_name c.args.cells.now c.requires.laid.count

pub mark_target-requires-clause-laid : goal.mark_target-requires-clause-laid
mark_target-requires-clause-laid g c =
    laid_keeps c.args.mapped.now c.args.cells.now c.loop-k.cells (names_keep (is_referenced_below c.args.mapped.now c.loop-k.k) c.args.cells.now c.loop-k.cells c.loop-k.invariant) c.requires.laid

pub loop-k-preserved : goal.loop-k-preserved
loop-k-preserved g c =
    referenced_next c.args.mapped.now c.loop-k.k (c.from-start.result + c.loop-k.k) c.args.cells.now c.loop-k.cells c.mark_target.new.cells (omega (arith, ap length (c.bytes-k-end.ensures.bytes ∙ ap (λ (i : ImageView). i.bytes) c.image-image.ensures), c.loop-k-test.true)) (omega (arith, c.from-start.ensures ∙ c.start.ensures ∙ ap (λ (i : ImageView). i.start) c.image-image.ensures)) c.loop-k.invariant c.mark_target.ensures

pub returns : goal.returns
returns g c =
    let m = c.args.mapped.now in
    record {
      laid = laid_keeps m c.args.cells.now c.loop-k.cells (names_keep (is_referenced_below m c.loop-k.k) c.args.cells.now c.loop-k.cells c.loop-k.invariant) c.requires.laid;
      named = referenced_end m c.loop-k.k c.args.cells.now c.loop-k.cells (omega (arith, ap length (c.bytes-k-end.ensures.bytes ∙ ap (λ (i : ImageView). i.bytes) c.image-image.ensures), c.loop-k-test.false)) c.requires.named c.loop-k.invariant;
    }
