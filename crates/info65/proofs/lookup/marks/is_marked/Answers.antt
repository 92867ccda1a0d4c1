use Rattle.std.proofs.Common.{◌≡◌, ◌∙◌, ◌+◌, ◌||◌, Bool, true, false, ap, arith, refl, sym}
use Rattle.info65.proofs.IndexLemmas.{any_end, any_next}
use Rattle.info65.proofs.lookup.marks.is_marked.Goals as goal

or_twice : (a b d : Bool) → ((a || b) || d) ≡ (a || (b || d))
or_twice true b d = refl
or_twice false b d = refl

or_none : (a : Bool) → (a || false) ≡ a
or_none true = refl
or_none false = refl

pub loop-address-preserved : goal.loop-address-preserved
loop-address-preserved c =
    or_twice c.loop-address.marked _ _ ∙ ap (λ b. c.loop-address.marked || b) (sym (any_next c.args.table.now c.loop-address.address (c.args.last + 1) (omega arith))) ∙ c.loop-address.invariant

pub returns : goal.returns
returns c =
    sym (or_none c.loop-address.marked) ∙ ap (λ b. c.loop-address.marked || b) (sym (any_end c.args.table.now c.loop-address.address (c.args.last + 1) (omega arith))) ∙ c.loop-address.invariant
