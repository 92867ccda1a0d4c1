-- One step of a search after the other.
use Rattle.std.proofs.Common.{◌≡◌, ◌⊎◌, ◌≤◌, ◌<◌, ◌*◌, ◌+◌, ◌||◌, ◌==◌, ℕ, Bool, true, false, List, [], ◌∷◌, ◌++◌, length, Option, Some, None, ap, arith, length-append, subst, sym, ⊎_elim}
use Rattle.std.specs.List.{Contains}
use Rattle.std.specs.Option.{option_to_list}
use Rattle.std.proofs.lemmas.Bool.Decides.{nat_tests}
use Rattle.std.proofs.lemmas.List.Elements.{Contains-append_cases, Contains-append_left, Contains-append_right, Contains-push, Contains-push_cases}
use Rattle.map65.specs.Words.{is_inside}
use Rattle.map65.proofs.Public.{open_count, open_fewer}
use Rattle.reach65.specs.Words.{AreReached, FlowView, LeadsTo, Reached, entry, goal_at, leads_of, led, next_at}
use Rattle.reach65.proofs.FlowLemmas.{leads-inside}

-- an address is still to be looked at
pub IsDue : List ℕ → ℕ → Type 0
IsDue todo a = Contains todo a

no-due : (a : ℕ) → IsDue [] a → ⊥
unfolding IsDue
no-due a has = omega (arith, has.1)

one-due : (a b : ℕ) → IsDue (b ∷ []) a → b ≡ a
unfolding IsDue
one-due a b has = ⊎_elim (λ none. absurd (no-due a none)) (λ same. same) (Contains-push_cases [] b a has)

due-cases : (xs ys : List ℕ) (a : ℕ) → IsDue (xs ++ ys) a → IsDue xs a ⊎ IsDue ys a
unfolding IsDue
due-cases xs ys a has = Contains-append_cases xs ys a has

due-left : (xs ys : List ℕ) (a : ℕ) → IsDue xs a → IsDue (xs ++ ys) a
unfolding IsDue
due-left xs ys a has = Contains-append_left xs ys a has

due-right : (xs ys : List ℕ) (a : ℕ) → IsDue ys a → IsDue (xs ++ ys) a
unfolding IsDue
due-right xs ys a has = Contains-append_right xs ys a has

due-here : (a : ℕ) → IsDue (a ∷ []) a
unfolding IsDue
due-here a = Contains-push [] a

in-option : (o : Option ℕ) (a : ℕ) → IsDue (option_to_list o) a → o ≡ Some a
in-option None a has = absurd (no-due a has)
in-option (Some b) a has = ap Some (one-due a b has)

option-in : (o : Option ℕ) (a : ℕ) → o ≡ Some a → IsDue (option_to_list o) a
option-in o a is = subst (λ o. IsDue (option_to_list o) a) (sym is) (due-here a)

leads_few : (o p : Option ℕ) → length (option_to_list o ++ option_to_list p) ≤ 2
leads_few None None = omega arith
leads_few None (Some y) = omega arith
leads_few (Some x) None = omega arith
leads_few (Some x) (Some y) = omega arith

-- ---- the steps of a search

-- what holds as long as addresses are still to be looked at
pub record IsSearch (f : FlowView) (entries : List ℕ) (marks : ℕ → Bool) (todo : List ℕ) : Type 0 where
  pub sound : (a : ℕ) → marks a ≡ true → Reached f entries a
  pub due : (a : ℕ) → IsDue todo a → is_inside f.map.image a ≡ true → Reached f entries a
  pub entries_seen : (a : ℕ) → IsDue entries a → is_inside f.map.image a ≡ true → (marks a ≡ true) ⊎ IsDue todo a
  pub leads_seen : (b a : ℕ) → marks b ≡ true → LeadsTo f b a → (marks a ≡ true) ⊎ IsDue todo a

-- each address that is marked adds two to the list at most
abbrev pub left_to_do : (ℕ → Bool) → List ℕ → ℕ
left_to_do marks todo = 3 * open_count marks 65536 + length todo

pub search_first : (f : FlowView) (entries : List ℕ) (marks : ℕ → Bool) (todo : List ℕ) → ((a : ℕ) → marks a ≡ false) → todo ≡ entries → IsSearch f entries marks todo
unfolding IsDue
search_first f entries marks todo none all = grind (arith, entry)

-- an address was taken from the list
module _ (f : FlowView) (entries : List ℕ) (marks : ℕ → Bool) (old rest : List ℕ) (a : ℕ) (taken : old ≡ rest ++ a ∷ []) (was : IsSearch f entries marks old) where
  -- it lies outside the image, or is marked
  pub search_skipped : (is_inside f.map.image a ≡ true → marks a ≡ true) → IsSearch f entries marks rest
  search_skipped skipped = grind (arith, due-cases, one-due, due-left, leads-inside)

  -- it was marked, and what it leads to joins the list
  pub search_marked : (new : ℕ → Bool) (todo : List ℕ) → is_inside f.map.image a ≡ true → ((x : ℕ) → new x ≡ (marks x || a == x)) → todo ≡ rest ++ leads_of f a
      → IsSearch f entries new todo
  search_marked new todo inside set pushed = grind (arith, nat_tests, due-cases, one-due, due-left, due-right, due-here, in-option, option-in, led)

  -- that leaves less to do, since an instruction leads to two addresses at most
  pub search_smaller : (new : ℕ → Bool) (todo : List ℕ) → a < 65536 → marks a ≡ false → ((x : ℕ) → new x ≡ (marks x || a == x)) → todo ≡ rest ++ leads_of f a
      → left_to_do new todo < left_to_do marks old
  search_smaller new todo low unmarked set pushed =
      let fewer = open_fewer marks new a 65536 unmarked low set in
      omega (arith, fewer, leads_few (next_at f a) (goal_at f.map a), ap length pushed, length-append rest (leads_of f a), simp length-append at (ap length taken))

-- ---- the end

reached-marked : (f : FlowView) (entries : List ℕ) (marks : ℕ → Bool) → IsSearch f entries marks [] → (a : ℕ) → Reached f entries a → marks a ≡ true
unfolding IsDue
reached-marked f entries marks was _ (entry a has inside) = grind (arith, no-due)
reached-marked f entries marks was _ (led b a from leads) = grind (arith, no-due, reached-marked f entries marks was b from)

pub search_end : (f : FlowView) (entries : List ℕ) (marks : ℕ → Bool) (todo : List ℕ) → todo ≡ [] → IsSearch f entries marks todo → AreReached f entries marks
search_end f entries marks todo none was = grind (arith, reached-marked)
