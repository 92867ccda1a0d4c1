-- A table of instructions, one address after the other.
use Rattle.std.proofs.Common.{◌≡◌, ◌∙◌, ◌+◌, ◌-◌, ◌<◌, ◌≤◌, ℕ, false, List, [], ◌∷◌, ◌++◌, length, get_or, ap, arith, inl, inr, refl, subst, sym, Option, Some, None}
use Rattle.std.proofs.lemmas.Bool.{cases_lt}
use Rattle.std.proofs.lemmas.Bool.Decides.{nat_tests}
use Rattle.std.proofs.lemmas.List.{get_or_append_left, get_or_past, get_or_push, length_push}
use Rattle.std.specs.Prelude.{unwrap_or}
use Rattle.std.specs.List.{slice_get}
use Rattle.std.proofs.lemmas.Option.{unwrap_or-slice_get}
use Rattle.isa65.specs.Words.{len_of}
use Rattle.map65.specs.Words.{MapView, end_of, is_inside, role_at}
use Rattle.reach65.specs.Flow.{if_whole, op_in}
use Rattle.reach65.specs.Words.{AreSteps, FlowView, IsStep, Op, Step, goal_at, instruction_at, next_at}

if-whole : (m : MapView) (a : ℕ) (o : Option Op) (op : Op) → if_whole m a o ≡ Some op → a + len_of op.mode ≤ end_of m.image
if-whole m a None op is = cc
if-whole m a (Some q) op is = grind (arith, nat_tests)

-- all bytes of an instruction lie in the image
pub whole : (m : MapView) (a : ℕ) (op : Op) → instruction_at m a ≡ Some op → a + len_of op.mode ≤ end_of m.image
unfolding instruction_at
whole m a op is = if-whole m a (op_in m (role_at m a) a) op is

-- so they lie below $10000
pub step_is_whole : (f : FlowView) (a start len : ℕ) (s : Step) → IsStep f a (Some s) → start ≡ f.map.image.start → len ≡ length f.map.image.bytes → start + len ≤ 65536
    → a + len_of s.op.mode ≤ 65536
step_is_whole f a start len s is from all room =
    let fits : a + len_of s.op.mode ≤ end_of f.map.image = whole f.map a s.op (sym is.op) in
    grind (arith)

-- none begins outside the image
outside : (m : MapView) (a : ℕ) → (m.image.start ≤ a → end_of m.image ≤ a) → instruction_at m a ≡ None
unfolding instruction_at role_at
outside m a past = let none : is_inside m.image a ≡ false = grind (arith, nat_tests) in rw none refl

no-step : (f : FlowView) (a : ℕ) → instruction_at f.map a ≡ None → IsStep f a None
unfolding next_at goal_at
no-step f a none = record { op = sym none; next = rw none refl; goal = rw none refl }

pub step_before : (f : FlowView) (a : ℕ) → a < f.map.image.start → IsStep f a None
step_before f a low = no-step f a (outside f.map a (λ high. absurd (omega (arith, low, high))))

-- the table has the first k addresses of the image
pub record AreStepsBelow (f : FlowView) (k : ℕ) (steps : List (Option Step)) : Type 0 where
  pub count : length steps ≡ k
  pub each : (i : ℕ) → i < k → IsStep f (f.map.image.start + i) (get_or steps i None)

pub steps_first : (f : FlowView) (steps : List (Option Step)) → steps ≡ [] → AreStepsBelow f 0 steps
steps_first f steps none = record { count = ap length none; each = λ i few. absurd (omega (arith, few)) }

-- one address more
pub steps_more : (f : FlowView) (k at : ℕ) (s : Option Step) (old new : List (Option Step)) → at ≡ f.map.image.start + k → new ≡ old ++ s ∷ []
    → IsStep f at s → AreStepsBelow f k old → AreStepsBelow f (k + 1) new
steps_more f k at s old new here pushed is was = record {
  count = ap length pushed ∙ length_push old s ∙ ap (λ n. n + 1) was.count;
  each = λ i few. elim (cases_lt i k) [
    | inl below ↦ subst (IsStep f (f.map.image.start + i)) (sym (ap (λ l. get_or l i None) pushed ∙ get_or_append_left old (s ∷ []) None i (omega (arith, below, was.count)))) (was.each i below)
    | inr past ↦
        let same : i ≡ k = omega (arith, few, past) in
        rw (same, pushed, get_or_push old s None k was.count) (subst (λ a. IsStep f a s) here is)
  ];
}

-- it has all of them
pub steps_all : (f : FlowView) (k : ℕ) (steps : List (Option Step)) → k ≡ length f.map.image.bytes → AreStepsBelow f k steps → AreSteps f steps
steps_all f k steps all was = record {
  each = λ a low. elim (cases_lt (a - f.map.image.start) k) [
    | inl below ↦
        let here : f.map.image.start + (a - f.map.image.start) ≡ a = omega (arith, low) in
        rw (unwrap_or-slice_get steps (a - f.map.image.start) None) (subst (λ b. IsStep f b (get_or steps (a - f.map.image.start) None)) here (was.each (a - f.map.image.start) below))
    | inr past ↦
        rw (unwrap_or-slice_get steps (a - f.map.image.start) None, get_or_past steps (a - f.map.image.start) None (omega (arith, past, was.count)))
        (no-step f a (outside f.map a (λ _. omega (arith, low, past, all))))
  ];
}

-- what the table has at an index
pub step_here : (f : FlowView) (steps : List (Option Step)) (a i : ℕ) (s : Option Step) → AreSteps f steps → f.map.image.start ≤ a → i ≡ a - f.map.image.start
    → s ≡ unwrap_or (slice_get steps i) None → IsStep f a s
step_here f steps a i s are low at is = rw (is, at) (are.each a low)
