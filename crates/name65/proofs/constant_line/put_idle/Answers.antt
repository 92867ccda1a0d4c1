use Rattle.std.proofs.Common.{◌≡◌, ◌∙◌, ◌++◌, ◌∷◌, [], refl, subst, sym, true}
use Rattle.std.proofs.lemmas.List.{append-nil}
use Rattle.stmt65.specs.Words.{numeral_of}
use Rattle.name65.specs.Changes.{left_out, moved, moves, stays}
use Rattle.name65.specs.Compared.{Renamed, value_cursor}
use Rattle.name65.specs.Written.{scope_seen}
use Rattle.name65.proofs.ChangeLemmas.{in_place}
use Rattle.name65.proofs.constant_line.put_idle.Goals as goal

pub returns-in_default : goal.returns-in_default
returns-in_default c = in_place _ _ _ _ stays c.in_ok-put_kept.ensures refl

pub returns-in_ok-put_kept-in-Kept : goal.returns-in_ok-put_kept-in-Kept
returns-in_ok-put_kept-in-Kept c = in_place _ _ _ _ stays c.in_ok-put_kept-in-Kept.ensures refl

pub returns-in-LeftOut : goal.returns-in-LeftOut
returns-in-LeftOut c = in_place _ _ _ [] (left_out c.in-Some.name.now (numeral_of c.in-Some.n) (rw c.in-Some.is at c.in_ok-name.ensures) c.in-LeftOut.ensures) (sym (append-nil _)) refl

pub returns-in_ok-put_kept-in-Moved : goal.returns-in_ok-put_kept-in-Moved
returns-in_ok-put_kept-in-Moved c =
    let placed = rw c.deref-in-Moved.ensures.value at (c.in_ok-is_placed-in-Moved.ensures c.in_ok-need-in-Moved-2.ensures) in
    let renamed = rw c.deref.ensures.value at (c.in_ok-is_revalued-in-Moved.ensures c.in_ok-need-in-Moved.ensures) in record {
      text = [];
      moved = c.in_ok-new-in-Moved.new.items ++ 10 ∷ [];
      becomes = moved c.in-Some.name.now (numeral_of c.in-Some.n) placed.distance (rw c.in-Some.is at c.in_ok-name.ensures)
          (subst (λ v. moves (scope_seen c.args.placed.now.plan.now) v ≡ true) c.value-value.ensures c.in-Moved.ensures.0)
          (subst (λ v. Renamed (scope_seen c.args.placed.now.plan.now) (value_cursor v) c.args.placed.now.line.now c.in_ok-new-in-Moved.new.items) c.value-value.ensures renamed)
          placed.reads (sym c.value-value.ensures ∙ placed.value_is);
      whole = sym (append-nil _);
      tail_is = rw c.deref-in-Moved-2.ensures.value at c.in_ok-put_kept-in-Moved.ensures;
    }
