use Rattle.std.proofs.Common.{◌∙◌, ap, refl}
use Rattle.trace65.proofs.UnshownLemmas.{filter_hit, filter_miss, filter_none}
use Rattle.trace65.proofs.unshown.unshown_of.Goals as goal
use Rattle.trace65.proofs.unshown.unshown_of.Goals.{then-is_unshown+in_ok-push, else-is_unshown}

pub image-init : goal.image-init
image-init c = filter_none _ _ _ c.new-found.ensures.items

pub image-preserved : goal.image-preserved
image-preserved c = elim c.if-is_unshown.branch [
  | then-is_unshown+in_ok-push w ↦ filter_hit _ _ _ _ c.is_unshown.result c.image.found.items _ refl c.is_unshown.ensures w.if-is_unshown.true c.image.invariant
      (ap (λ v. v.items) w.found-is ∙ w.in_ok-push.ensures.items)
  | else-is_unshown w ↦ filter_miss _ _ _ _ c.is_unshown.result c.image.found.items _ refl c.is_unshown.ensures w.if-is_unshown.false c.image.invariant
      (ap (λ v. v.items) w.found-is)
]
