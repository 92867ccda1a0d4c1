use Rattle.std.proofs.Common.{◌≡◌, ◌∙◌, ◌+◌, arith, false, subst, sym, []}
use Rattle.std.proofs.lemmas.Bool.{cond-false}
use Rattle.map65.specs.Words.{MapView, has_name}
use Rattle.da65.specs.Words.{constant_lines}
use Rattle.da65.proofs.NextLine.ConstantLemmas.{constants-unnamed}
use Rattle.da65.proofs.NextLine.NextLemmas.{lines-here}
use Rattle.da65.proofs.listing.constant_lines.constant_before.Goals as goal

pub addresses-init : goal.addresses-init
addresses-init g c = record {
  same = constants-unnamed _ c.args.from c.named_from-at.result c.named_from-at.ensures.low (omega (arith, c.named_from-at.ensures.high, c.requires.bound)) (λ a low high. subst (λ (m : MapView). has_name m a ≡ false) c.map-map.ensures.map (c.named_from-at.ensures.between a low high));
  bound = c.named_from-at.ensures.high;
}

pub addresses-preserved : goal.addresses-preserved
addresses-preserved g c = record {
  same = c.addresses.invariant.same ∙ lines-here (constant_lines _) 65536 c.addresses.at [] (omega (arith, c.addresses-test.true, c.requires.bound)) (cond-false _ _ _ (sym c.is_named_constant.ensures.is ∙ c.if-is_named_constant.false))
      ∙ constants-unnamed _ (c.addresses.at + 1) c.named_from-at-in-addresses.result c.named_from-at-in-addresses.ensures.low (omega (arith, c.named_from-at-in-addresses.ensures.high, c.requires.bound)) (λ a low high. subst (λ (m : MapView). has_name m a ≡ false) c.map-map.ensures.map (c.named_from-at-in-addresses.ensures.between a low high));
  bound = c.named_from-at-in-addresses.ensures.high;
}
