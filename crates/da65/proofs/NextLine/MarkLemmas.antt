-- A listing at comment level 0, without segments and comments, has no lines at the heads of its groups.
use Rattle.std.proofs.Common.{arith, ◌≡◌, ◌∙◌, ℕ, Bool, true, false, List, Option, Some, None, refl, sym, ap}
use Rattle.std.specs.Prelude.{if◌then◌else◌, ◌==◌, is_some}
use Rattle.std.specs.List.{list_any}
use Rattle.std.proofs.lemmas.Bool.{eqb-true, not-false, or_parts, true≢false}
use Rattle.std.proofs.lemmas.List.{nil_from_length}
use Rattle.std.proofs.lemmas.List.Folds.{list_any_at}
use Rattle.info65.specs.Words.{NameView, blank_name, covering}
use Rattle.da65.specs.Words.{IsUnmarked, comment_at, comment_by, has_comment, has_marks, style_of}
use Rattle.info65.proofs.Public.{last_name}
use Rattle.map65.specs.Words.{MapView, has_name}
use Rattle.map65.proofs.Public.{base-covered, base-none}
use Rattle.da65.proofs.NextLine.SegmentLemmas.{bare-segment}

bare-comment : (m : MapView) (a : ℕ) → list_any has_comment m.info.names ≡ false → comment_at m a ≡ None
unfolding comment_at
bare-comment m a none = go (covering m.info.names a) refl
  where
    has : (n : NameView) → covering m.info.names a ≡ Some n → (o : Option (List ℕ)) → n.comment ≡ o → o ≡ None
    has n e None f = refl
    has n e (Some text) f =
        let last = last_name m.info.names a n e in
        absurd (true≢false (sym (list_any_at has_comment m.info.names last.index blank_name last.low (ap has_comment (sym last.is) ∙ ap is_some f)) ∙ none))

    of : (n : NameView) (own : Bool) → n.comment ≡ None → (if own then n.comment else None) ≡ None
    of n true e = e
    of n false e = refl

    go : (o : Option NameView) → covering m.info.names a ≡ o → comment_by a o ≡ None
    go None e = refl
    go (Some n) e = of n (n.address == a) (has n e n.comment refl)

pub unmarked : (m : MapView) → has_marks m.info (style_of m.info.settings) ≡ false → IsUnmarked m
unmarked m none = grind (arith, or_parts, eqb-true, not-false, nil_from_length, bare-comment, bare-segment)

-- an address without a name has no comment
pub unnamed-comment : (m : MapView) (a : ℕ) → has_name m a ≡ false → comment_at m a ≡ None
unfolding comment_at
unnamed-comment m a none = grind (arith, base-covered, base-none)
