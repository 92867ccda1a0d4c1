-- The comments of given names, and the names of segments, can be printed.
use Rattle.std.proofs.Common.{◌≡◌, ◌∙◌, ℕ, Bool, true, false, not, List, ◌∷◌, Option, Some, None, All, refl, ap, sym, subst, arith, []}
use Rattle.std.specs.Prelude.{IfSome, ◌==◌, if◌then◌else◌, option_map}
use Rattle.std.specs.List.{find, list_all}
use Rattle.std.proofs.lemmas.Bool.{and_from, and_parts}
use Rattle.std.proofs.lemmas.Bool.Decides.{nat_tests}
use Rattle.text65.specs.Names.{has_name_form}
use Rattle.info65.specs.Words.{AreNames, AreSegments, InfoView, IsComment, IsSegment, NameView, SegmentView, blank_name, covering, has_comment_form, is_comment_byte, segment_covering}
use Rattle.stmt65.specs.Words.{IsNameLong, IsPrintable}
use Rattle.stmt65.specs.Views as view
use Rattle.std.proofs.lemmas.List.Elements.{All-head, All-tail}
use Rattle.info65.proofs.Public.{last_name}
use Rattle.map65.specs.Words.{MapView, segment_at}
use Rattle.da65.specs.Words.{comment_at, comment_by}
use Rattle.da65.proofs.Names.NameTexts.{text_long}
use Rattle.da65.proofs.Statements.StandsLaws.{at_some}

-- ---- comments

no-feed : (b : ℕ) → is_comment_byte b ≡ true → not (b == 10) ≡ true
no-feed b is = grind (arith, nat_tests)

no-feeds : (text : List ℕ) → list_all is_comment_byte text ≡ true → list_all (λ b. not (b == 10)) text ≡ true
no-feeds [] are = refl
no-feeds (b ∷ bs) are =
    let both = and_parts (is_comment_byte b) (list_all is_comment_byte bs) are in
    and_from (not (b == 10)) (list_all (λ b. not (b == 10)) bs) (no-feed b both.0) (no-feeds bs both.1)

comment-text : (text : List ℕ) → IsComment text → IsPrintable (view.remark text)
unfolding has_comment_form
comment-text text is = grind (arith, no-feeds)

pub comment-printable : (m : MapView) (a : ℕ) (text : List ℕ) → AreNames m.info.names → comment_at m a ≡ Some text → IsPrintable (view.remark text)
unfolding comment_at
comment-printable m a text are e = go (covering m.info.names a) refl e
  where
    has : (n : NameView) → covering m.info.names a ≡ Some n → IfSome n.comment IsComment
    has n f =
        let last = last_name m.info.names a n f in
        subst (λ (n : NameView). IfSome n.comment IsComment) (sym last.is) (are.each last.index blank_name last.low).comment

    of : (n : NameView) → covering m.info.names a ≡ Some n → (own : Bool) → (if own then n.comment else None) ≡ Some text → IsPrintable (view.remark text)
    of n f true e = comment-text text (at_some IsComment n.comment text e (has n f))
    of n f false e = absurd cc

    go : (o : Option NameView) → covering m.info.names a ≡ o → comment_by a o ≡ Some text → IsPrintable (view.remark text)
    go None f e = absurd cc
    go (Some n) f e = of n f (n.address == a) e

pub some_printable : (m : MapView) (a : ℕ) (o : Option (List ℕ)) → AreNames m.info.names → o ≡ comment_at m a → IfSome o (λ text. IsPrintable (view.remark text))
some_printable m a None are e = tt
some_printable m a (Some text) are e = comment-printable m a text are (sym e)

-- ---- segments

-- what is found among segments is one of them
found-segment : (f : SegmentView → Bool) (segments : List SegmentView) (name : List ℕ) → All IsSegment segments → option_map (λ s. s.name) (find f segments) ≡ Some name → has_name_form name ≡ true
found-segment f [] name each e = absurd cc
found-segment f (s ∷ segments) name each e = of (f s) e (found-segment f segments name (All-tail IsSegment s segments each))
  where
    of : (t : Bool) → option_map (λ s. s.name) (if t then Some s else find f segments) ≡ Some name
        → (option_map (λ s. s.name) (find f segments) ≡ Some name → has_name_form name ≡ true) → has_name_form name ≡ true
    of true e past = let same : s.name ≡ name = cc in subst (λ (n : List ℕ). has_name_form n ≡ true) same (All-head IsSegment s segments each).form
    of false e past = past e

pub segment-printable : (m : MapView) (a : ℕ) (name : List ℕ) → AreSegments m.info.segments → segment_at m a ≡ Some name → IsNameLong name × (has_name_form name ≡ true)
unfolding segment_at segment_covering
segment-printable m a name are e = grind (arith, found-segment, text_long)

pub some_segment : (m : MapView) (a : ℕ) (o : Option (List ℕ)) → AreSegments m.info.segments → o ≡ segment_at m a → IfSome o IsNameLong
some_segment m a None are e = tt
some_segment m a (Some name) are e = (segment-printable m a name are (sym e)).0

pub given_told : (i : InfoView) (m : MapView) (a : ℕ) (o : Option (List ℕ)) → o ≡ comment_by a (covering i.names a) → i ≡ m.info → o ≡ comment_at m a
unfolding comment_at
given_told i m a o is same = is ∙ ap (λ (i : InfoView). comment_by a (covering i.names a)) same

-- what a map tells of it
pub segment_told : (n m : MapView) (a : ℕ) (o : Option (List ℕ)) → o ≡ segment_at n a → n ≡ m → o ≡ segment_at m a
segment_told n m a o is same = is ∙ ap (λ (m : MapView). segment_at m a) same
