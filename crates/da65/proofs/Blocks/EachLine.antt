-- What holds of each of some lines, and of the lines that stand beside those of names and bytes.
use Rattle.std.proofs.Common.{◌≡◌, ℕ, Bool, true, List, ◌∷◌, ◌++◌, Option, Some, None, refl, []}
pub use Rattle.std.specs.List.{AllByRecursion as Each}
use Rattle.std.specs.List.{filter, flat_map}
use Rattle.std.proofs.lemmas.Bool.{cond_both}
use Rattle.stmt65.specs.Views as view
use Rattle.map65.specs.Words.{MapView, addresses, segment_at}
use Rattle.da65.specs.Words.{ListingLine, comment_at, comment_line, comment_lines, ending_lines, group_len, has_empty_line, has_separator, opening_lines, plain, segment_lines, segment_statement, separator, separator_lines, statement_at, style_of}
use Rattle.std.proofs.Common.{arith}

pub each_append : (P : ListingLine → Type 0) (xs ys : List ListingLine) → Each P xs → Each P ys → Each P (xs ++ ys)
each_append P [] ys h g = g
each_append P (x ∷ xs) ys h g = (h.0, each_append P xs ys h.1 g)

pub each_flat : (P : ListingLine → Type 0) (f : ℕ → List ListingLine) → ((a : ℕ) → Each P (f a)) → (xs : List ℕ) → Each P (flat_map f xs)
each_flat P f h [] = tt
each_flat P f h (x ∷ xs) = each_append P (f x) (flat_map f xs) (h x) (each_flat P f h xs)

-- of the addresses that pass a test
pub each_filtered : (P : ListingLine → Type 0) (f : ℕ → List ListingLine) (p : ℕ → Bool) → ((a : ℕ) → p a ≡ true → Each P (f a)) → (xs : List ℕ) → Each P (flat_map f (filter p xs))
each_filtered P f p h [] = tt
each_filtered P f p h (x ∷ xs) = grind (arith, (each_filtered P f p h xs), cond_both, each_append)

-- an empty line, the separator, a line that enters a segment, and the comment of a name
pub record HoldsBeside (m : MapView) (P : ListingLine → Type 0) : Type 0 where
  pub blank : P (plain view.blank)
  pub separates : P (plain separator)
  pub enters : (a : ℕ) → P (plain (segment_statement (segment_at m a)))
  pub comment : (a : ℕ) (text : List ℕ) → comment_at m a ≡ Some text → P (plain (view.remark text))

module _ (m : MapView) (P : ListingLine → Type 0) (h : HoldsBeside m P) where
  pub each_comment : (a : ℕ) → Each P (comment_lines m a)
  each_comment a = go (comment_at m a) refl
    where
      go : (o : Option (List ℕ)) → comment_at m a ≡ o → Each P (comment_line o)
      go None e = tt
      go (Some text) e = (h.comment a text e, tt)

  pub each_opening : (a : ℕ) → Each P (opening_lines m a)
  unfolding opening_lines segment_lines
  each_opening a =
      each_append P (separator_lines m a) _ (cond_both (has_separator m a) (plain separator ∷ []) [] (Each P) (λ _. (h.separates, tt)) (λ _. tt))
      (each_append P (segment_lines m a) _ (cond_both _ [] (plain (segment_statement (segment_at m a)) ∷ []) (Each P) (λ _. tt) (λ _. (h.enters a, tt)))
      (each_flat P (comment_lines m) each_comment (addresses (group_len m a) a)))

  pub each_ending : (a : ℕ) → Each P (ending_lines m a)
  unfolding ending_lines
  each_ending a = cond_both (has_empty_line (style_of m.info.settings) (statement_at m a)) (plain view.blank ∷ []) [] (Each P) (λ _. (h.blank, tt)) (λ _. tt)
