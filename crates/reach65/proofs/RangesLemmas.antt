-- One range after the other.
use Rattle.std.proofs.Common.{◌≡◌, ◌∙◌, ◌<◌, ◌≤◌, ◌&&◌, ◌||◌, nat_lt, ℕ, Bool, true, false, All, List, [], ◌∷◌, ◌++◌, ap, arith, sym, subst}
use Rattle.std.proofs.lemmas.Bool.Decides.{nat_tests}
use Rattle.std.proofs.lemmas.List.Elements.{All-push}
use Rattle.std.proofs.lemmas.List.Folds.{list_any-append}
use Rattle.std.proofs.lemmas.List.Quantifiers.{all_pairs_push}
use Rattle.info65.specs.Words.{has_address}
use Rattle.map65.specs.Words.{ImageView, end_of}
use Rattle.reach65.specs.Words.{AreInOrder, LieIn, LiesIn, RangeSpec, is_free, is_given}

-- the ranges of the free addresses before one, which is free or ends the image
pub record AreRangesBelow (image : ImageView) (taken : ℕ → Bool) (end : ℕ) (ranges : List RangeSpec) : Type 0 where
  pub low : image.start ≤ end
  pub high : end ≤ end_of image
  pub free : end < end_of image → taken end ≡ false
  pub cover : (a : ℕ) → is_given ranges a ≡ (nat_lt a end && is_free image taken a)
  pub inside : LieIn image ranges
  pub order : AreInOrder ranges
  pub below : All (λ r. r.last < end) ranges

-- there are none before the first free address
pub ranges_first : (image : ImageView) (taken : ℕ → Bool) (end : ℕ) (ranges : List RangeSpec) → ranges ≡ [] → image.start ≤ end → end ≤ end_of image → (end < end_of image → taken end ≡ false) → ((a : ℕ) → image.start ≤ a → a < end → taken a ≡ true)
    → AreRangesBelow image taken end ranges
unfolding is_given
ranges_first image taken end ranges is low high free none = subst (AreRangesBelow image taken end) (sym is) (record {
  low = low;
  high = high;
  free = free;
  cover = λ a. let here = none a in grind (arith, nat_tests);
  inside = λ k d some. absurd (omega (arith, some));
  order = λ i j d before some. absurd (omega (arith, some));
  below = λ k d some. absurd (omega (arith, some));
})

-- one more, of free addresses, and all that is taken between it and the next free address
module _ (image : ImageView) (taken : ℕ → Bool) (next : ℕ) (r : RangeSpec) (old new : List RangeSpec) (pushed : new ≡ old ++ r ∷ []) (some : r.first ≤ r.last) (after : r.last < next) (room : next ≤ end_of image) (open_next : next < end_of image → taken next ≡ false) (free : (a : ℕ) → r.first ≤ a → a ≤ r.last → taken a ≡ false) (others : (a : ℕ) → r.last < a → a < next → taken a ≡ true) (was : AreRangesBelow image taken r.first old) where
  more-given : (a : ℕ) → is_given (old ++ r ∷ []) a ≡ (is_given old a || has_address r a)
  unfolding is_given
  more-given a = grind (arith, list_any-append)

  more-free : (a : ℕ) → ((nat_lt a r.first && is_free image taken a) || has_address r a) ≡ (nat_lt a next && is_free image taken a)
  more-free a =
      let within = free a in
      let beyond = others a in
      let low = was.low in
      grind (arith, nat_tests)

  pub ranges_more : AreRangesBelow image taken next new
  ranges_more = subst (AreRangesBelow image taken next) (sym pushed) (record {
    low = omega (arith, was.low);
    high = room;
    free = open_next;
    cover = λ a. more-given a ∙ ap (λ b. b || has_address r a) (was.cover a) ∙ more-free a;
    inside = All-push (LiesIn image) old r was.inside (record { low = was.low; order = some; high = omega arith });
    order = all_pairs_push (λ (q p : RangeSpec). q.last < p.first) old r was.order (λ k d lies. was.below k d lies);
    below = All-push (λ q. q.last < next) old r (λ k d lies. omega (arith, was.below k d lies)) after;
  })
