-- Cells of which some are changed.
use Rattle.std.proofs.Common.{◌≡◌, ◌∙◌, ℕ, ◌+◌, ◌<◌, ◌≤◌, ◌||◌, ◌==◌, Bool, true, false, List, length, get_or, set, take, max, refl, ap, sym, arith}
use Rattle.std.specs.List.{list_any}
use Rattle.std.proofs.Math.ListN.{length-set}
use Rattle.std.proofs.lemmas.Bool.{eq-eqb, ne_eqb}
use Rattle.std.proofs.lemmas.Bool.Decides.{nat_tests}
use Rattle.std.proofs.lemmas.List.Folds.{list_any_more}
use Rattle.map65.proofs.CellLemmas.{set-cell}
use Rattle.map65.specs.Words.{Changes, changed, is_within, nowhere}

pub changes_none : (f : ℕ → ℕ) (cells : List ℕ) → length cells ≡ 65536 → Changes f nowhere cells cells
changes_none f cells count = record { count = count; each = λ a room. refl }

pub changes_as : (f : ℕ → ℕ) (p q : ℕ → Bool) (old new : List ℕ) → ((a : ℕ) → a < 65536 → p a ≡ q a) → Changes f p old new → Changes f q old new
changes_as f p q old new same h = record { count = h.count; each = λ a room. h.each a room ∙ ap (λ (t : Bool). changed f t (get_or old a 0)) (same a room) }

pub changes_one : (f : ℕ → ℕ) (cells : List ℕ) (n x : ℕ) → length cells ≡ 65536 → n < 65536 → x ≡ f (get_or cells n 0) → Changes f (λ a. n == a) cells (set cells n x)
changes_one f cells n x count room is = record {
  count = length-set cells n x ∙ count;
  each = set-cell (λ a y. y ≡ changed f (n == a) (get_or cells a 0)) cells n x (omega (arith, count, room))
      (is ∙ sym (ap (λ (t : Bool). changed f t (get_or cells n 0)) (eq-eqb n n refl)))
      (λ a below other. sym (ap (λ (t : Bool). changed f t (get_or cells a 0)) (ne_eqb n a (λ same. other (sym same)))));
}

-- to change a cell again changes nothing
module _ (f : ℕ → ℕ) (again : (c : ℕ) → f (f c) ≡ f c) where
  twice : (p q : Bool) (c : ℕ) → changed f q (changed f p c) ≡ changed f (p || q) c
  twice true true c = again c
  twice true false c = refl
  twice false q c = refl

  pub changes_then : (p q : ℕ → Bool) (old mid new : List ℕ) → Changes f p old mid → Changes f q mid new → Changes f (λ a. p a || q a) old new
  changes_then p q old mid new first second = record {
    count = second.count;
    each = λ a room. second.each a room ∙ ap (changed f (q a)) (first.each a room) ∙ twice (p a) (q a) (get_or old a 0);
  }

  -- the cells that q says of one element more
  pub changes_more : {X : Type 0} (q : X → ℕ → Bool) (xs : List X) (i : ℕ) (d : X) (old mid new : List ℕ) → i < length xs → Changes f (λ a. list_any (λ x. q x a) (take i xs)) old mid → Changes f (q (get_or xs i d)) mid new → Changes f (λ a. list_any (λ x. q x a) (take (i + 1) xs)) old new
  changes_more q xs i d old mid new below first second =
      changes_as f (λ a. list_any (λ x. q x a) (take i xs) || q (get_or xs i d) a) (λ a. list_any (λ x. q x a) (take (i + 1) xs)) old new (λ a room. sym (list_any_more (λ x. q x a) xs i d below))
      (changes_then (λ a. list_any (λ x. q x a) (take i xs)) (q (get_or xs i d)) old mid new first second)

  -- the address at the end of a span
  pub span_next : (from at x : ℕ) (old cells : List ℕ) → from ≤ at → at < 65536 → x ≡ f (get_or cells at 0) → Changes f (is_within from at) old cells → Changes f (is_within from (at + 1)) old (set cells at x)
  span_next from at x old cells low room is h =
      changes_as f (λ a. is_within from at a || at == a) (is_within from (at + 1)) old (set cells at x) (λ a below. grind (arith, nat_tests))
      (changes_then (is_within from at) (λ a. at == a) old cells (set cells at x) h (changes_one f cells at x h.count room is))

pub span_none : (f : ℕ → ℕ) (from : ℕ) (cells : List ℕ) → length cells ≡ 65536 → Changes f (is_within from from) cells cells
span_none f from cells count = changes_as f nowhere (is_within from from) cells cells (λ a room. grind (arith, nat_tests)) (changes_none f cells count)

pub span_end : (f : ℕ → ℕ) (from to at : ℕ) (old new : List ℕ) → to ≤ at → at ≤ max from to → Changes f (is_within from at) old new → Changes f (is_within from to) old new
span_end f from to at old new past high h = changes_as f (is_within from at) (is_within from to) old new (λ a room. grind (arith, nat_tests)) h

pub ruleset changes = (changes_none, changes_as, changes_one, changes_then, ne_eqb)

pub ruleset spans = (span_none, span_next, span_end)
