-- The tokens of a text stand in it.
use Rattle.std.proofs.Common.{◌≡◌, ◌∙◌, ◌==◌, ◌+◌, ℕ, zero, suc, Bool, true, false, List, [], ◌∷◌, ◌++◌, ap, arith, drop, refl, sym}
use Rattle.std.specs.Prelude.{Result, Ok, Err}
use Rattle.std.proofs.lemmas.List.{append-nil}
use Rattle.info65.specs.Words.{InfoFault, LexemeView, Stand, Stream, TokenView, TokensStand, ended, feeds, found, is_blank, is_gap, is_solid, lexeme_at, opens_comment, tokens_after}
use Rattle.info65.proofs.Cases.{by_test}

abbrev StandIn : Bool → ℕ → List ℕ → Stream → Type 0
StandIn c line bytes s = Stand c line bytes s.tokens s.ending

-- a byte more in front, after which the gap goes on
record Goes (b : ℕ) (bs : List ℕ) (from to : Bool) (first next : ℕ) : Type 0 where
  gap : (last : Bool) (xs ys : List ℕ) → bs ≡ xs ++ ys → is_gap last to xs ≡ true → (last ≡ true → ys ≡ []) → is_gap last from (b ∷ xs) ≡ true
  counted : (xs : List ℕ) → next + feeds xs ≡ first + feeds (b ∷ xs)

pushed : (b : ℕ) (bs : List ℕ) (from to : Bool) (first next : ℕ) (ts : List TokenView) (ending : Result ℕ InfoFault) → Goes b bs from to first next → Stand to next bs ts ending → Stand from first (b ∷ bs) ts ending
pushed b bs from to first next [] (Ok last) g h = record {
  blank = g.gap true bs [] (sym (append-nil bs)) h.blank (λ _. refl);
  counted = h.counted ∙ g.counted bs;
}
pushed b bs from to first next [] (Err e) g h = record {
  gap = b ∷ h.gap;
  rest = h.rest;
  parts = ap (λ (l : List ℕ). b ∷ l) h.parts;
  blank = g.gap false h.gap h.rest h.parts h.blank (λ e. absurd cc);
  solid = h.solid;
  is = ap (λ n. lexeme_at n h.rest) (sym (g.counted h.gap)) ∙ h.is;
}
pushed b bs from to first next (t ∷ ts) ending g h =
    let n = h.2 in (
      h.0,
      h.1,
      record {
        gap = b ∷ n.gap;
        parts = ap (λ (l : List ℕ). b ∷ l) n.parts;
        blank = g.gap false n.gap h.0 n.parts n.blank (λ e. absurd cc);
        counted = n.counted ∙ g.counted n.gap;
        is = n.is;
        text = n.text;
      },
      h.3,
    )

feed_goes : (b : ℕ) (bs : List ℕ) (c : Bool) (line : ℕ) → (b == 10) ≡ true → Goes b bs c false line (line + 1)
feed_goes b bs c line is = grind arith

within_goes : (b : ℕ) (bs : List ℕ) (line : ℕ) → (b == 10) ≡ false → Goes b bs true true line line
within_goes b bs line isnt = grind arith

blank_goes : (b : ℕ) (bs : List ℕ) (line : ℕ) → (b == 10) ≡ false → is_blank b ≡ true → Goes b bs false false line line
blank_goes b bs line isnt is = grind arith

-- a comment opens by its first two bytes
still_opens : (last : Bool) (b : ℕ) (bs xs ys : List ℕ) → bs ≡ xs ++ ys → is_gap last true xs ≡ true → (last ≡ true → ys ≡ []) → opens_comment (b ∷ bs) ≡ true → opens_comment (b ∷ xs) ≡ true
still_opens last b bs (x ∷ xs) ys parts blank end h = rw parts at h
still_opens true b bs [] ys parts blank end h = let none : bs ≡ [] = parts ∙ end refl in rw none at h
still_opens false b bs [] ys parts blank end h = absurd cc

comment_goes : (b : ℕ) (bs : List ℕ) (line : ℕ) → (b == 10) ≡ false → is_blank b ≡ false → opens_comment (b ∷ bs) ≡ true → Goes b bs false true line line
comment_goes b bs line isnt solid opens = grind (arith, still_opens)

-- a token, or what is none, at the front
begins : (line b : ℕ) (bs : List ℕ) (after : ℕ → Stream) → ((more : ℕ) → StandIn false line (drop more bs) (after more)) → (r : Result LexemeView InfoFault) → is_solid (b ∷ bs) ≡ true → lexeme_at line (b ∷ bs) ≡ r → StandIn false line (b ∷ bs) (found line (b ∷ bs) r after)
begins line b bs after stand (Err e) solid is = grind arith
begins line b bs after stand (Ok p) solid is = grind arith

end_stands : (c : Bool) (line : ℕ) → StandIn c line [] (ended line)
end_stands c line = record { blank = refl; counted = omega arith }

stands : (skip : ℕ) (c : Bool) (line : ℕ) (bs : List ℕ) → StandIn c line (drop skip bs) (tokens_after skip c line bs)
unfolding tokens_after
stands zero c line [] = end_stands c line
stands (suc k) c line [] = end_stands c line
stands (suc k) c line (b ∷ bs) = stands k c line bs
stands zero c line (b ∷ bs) =
    by_test (b == 10)
    (λ feed. rw feed (pushed b bs c false line (line + 1) _ _ (feed_goes b bs c line feed) (stands 0 false (line + 1) bs)))
    (λ other. by_test c
    (λ on. rw (other, on) (pushed b bs true true line line _ _ (within_goes b bs line other) (stands 0 true line bs)))
    (λ off. by_test (is_blank b)
    (λ blank. rw (other, off, blank) (pushed b bs false false line line _ _ (blank_goes b bs line other blank) (stands 0 false line bs)))
    (λ solid. by_test (opens_comment (b ∷ bs))
    (λ opens. rw (other, off, solid, opens) (pushed b bs false true line line _ _ (comment_goes b bs line other solid opens) (stands 0 true line bs)))
    (λ closed. rw (other, off, solid, closed) (begins line b bs (λ more. tokens_after more false line bs) (λ more. stands more false line bs) (lexeme_at line (b ∷ bs)) (rw (other, solid, closed) refl) refl)))))

pub tokens_stand : TokensStand
tokens_stand bytes = stands 0 false 1 bytes
