use Rattle.std.proofs.Common.{◌≡◌, ◌∙◌, ◌≤◌, ap, arith, length, subst}
use Rattle.map65.specs.Words.{ImageView, IsPlaced, end_of}
use Rattle.map65.proofs.MarkingLemmas.{all_marked, first_begins, marked_none}
use Rattle.map65.proofs.marking.mark_items.Goals as goal

pub items-init : goal.items-init
items-init g c =
    let m = c.args.mapped.now in
    let at : c.from-at.result ≡ m.image.start = c.from-at.ensures ∙ c.start.ensures ∙ ap (λ (i : ImageView). i.start) c.image-image.ensures in
    record {
      low = omega (arith, at);
      begins = first_begins m _ at;
      marked = marked_none m _ c.args.cells.now at c.requires.marked;
      own = c.requires.own;
    }

pub returns : goal.returns
returns g c =
    let bytes = ap length (c.bytes.ensures.bytes ∙ ap (λ (i : ImageView). i.bytes) c.image-image.ensures) in
    let past : end_of c.args.mapped.now.image ≤ c.items.at = omega (arith, c.from-at.ensures ∙ c.start.ensures ∙ ap (λ (i : ImageView). i.start) c.image-image.ensures, bytes, c.items-test.false) in
    record {
      laid = all_marked c.args.mapped.now c.items.at c.items.cells past c.items.invariant.marked;
      own = c.items.invariant.own;
      placed = subst IsPlaced c.image-image.ensures c.bytes.ensures.placed;
    }
