-- Ranges of the opcodes that hide an instruction.
use Rattle.std.proofs.Common.{◌≡◌, ◌∙◌, ℕ, Bool, true, List, [], ◌∷◌, ◌++◌, ap, subst, sym}
use Rattle.std.proofs.lemmas.List.Elements.{All-nil, All-push}
use Rattle.info65.specs.declared.information.range.RangeSpec.{RangeSpec}
use Rattle.map65.specs.Words.{MapView, MarksView}
use Rattle.trace65.specs.Skips.{IsSkip}
use Rattle.trace65.specs.Words.{AreSkips, is_skip, skip_range}

-- none so far
pub skips_none : (m : MapView) (reached : MarksView) (found : List RangeSpec) → found ≡ [] → AreSkips m reached found
skips_none m reached found is = subst (λ l. AreSkips m reached l) (sym is) (All-nil (IsSkip m reached))

-- one more
pub skips_more : (m : MapView) (reached : MarksView) (a : ℕ) (skips : Bool) (r : RangeSpec) (old new : List RangeSpec) → skips ≡ is_skip m reached a → skips ≡ true → r ≡ skip_range a
    → AreSkips m reached old → new ≡ old ++ r ∷ [] → AreSkips m reached new
skips_more m reached a skips r old new so hit is before more =
    let first : r.first ≡ a = ap (λ s. s.first) is in
    let one : IsSkip m reached r = record {
      skip = subst (λ x. is_skip m reached x ≡ true) (sym first) (sym so ∙ hit);
      same = is ∙ ap skip_range (sym first);
    } in
    subst (λ l. AreSkips m reached l) (sym more) (All-push (IsSkip m reached) old r before one)
