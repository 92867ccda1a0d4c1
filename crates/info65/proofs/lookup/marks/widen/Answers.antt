use Rattle.std.proofs.Common.{◌∙◌, arith, false, inl, inr, refl, sym}
use Rattle.std.proofs.lemmas.Bool.{cases_lt}
use Rattle.std.proofs.Math.ListN.{get_or-eq_default}
use Rattle.std.specs.Vec.{vec_len}
use Rattle.info65.proofs.lookup.marks.widen.Goals as goal

pub returns-clause-same : goal.returns-clause-same
returns-clause-same g c = λ a low. elim (cases_lt a (vec_len c.args.table.now)) [
  | inl within ↦ c.in_ok-resize.ensures.by_index.0 a false low within
  | inr past ↦ c.in_ok-resize.ensures.by_index.1 a false refl past low ∙ sym (get_or-eq_default c.args.table.now.items false (omega (arith, past)))
]
