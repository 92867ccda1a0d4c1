use Rattle.std.proofs.Common.{◌++◌, ◌∷◌, [], refl}
use Rattle.name65.specs.Changes.{renamed, stays}
use Rattle.name65.proofs.ChangeLemmas.{in_place}
use Rattle.name65.proofs.changes.put_line.Goals as goal

pub returns-then-not-has_one : goal.returns-then-not-has_one
returns-then-not-has_one c = in_place _ _ _ _ stays c.in_ok-put_kept.ensures refl

pub returns : goal.returns
returns c =
    let is = c.in_ok-is_renamed.ensures c.in_ok-need.ensures in
    in_place _ _ _ (c.as_slice-change.result.now ++ 10 ∷ []) (renamed is.named is.renamed) c.in_ok-put_kept-2.ensures refl
