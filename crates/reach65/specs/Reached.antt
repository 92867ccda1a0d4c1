-- What is reached: the least set of addresses that has the entries in the image, and with an
-- address those that its instruction leads to.
use Rattle.std.specs.Prelude.{◌≡◌, ◌↔◌, ◌++◌, ℕ, Bool, true, List, Contains}
use Rattle.std.specs.Option.{option_to_list}
use Rattle.map65.specs.Words.{is_inside}
use Rattle.reach65.specs.Flow.{FlowView, LeadsTo, goal_at, next_at}

pub data Reached (f : FlowView) (entries : List ℕ) : ℕ → Type 0 where
  entry : (a : ℕ) → Contains entries a → is_inside f.map.image a ≡ true → Reached f entries a
  led : (b a : ℕ) → Reached f entries b → LeadsTo f b a → Reached f entries a

-- an address is marked exactly when it is reached
pub record AreReached (f : FlowView) (entries : List ℕ) (marks : ℕ → Bool) : Type 0 where
  pub each : (a : ℕ) → marks a ≡ true ↔ Reached f entries a

-- the addresses that the instruction of an address leads to
abbrev pub leads_of : FlowView → ℕ → List ℕ
leads_of f a = option_to_list (next_at f a) ++ option_to_list (goal_at f.map a)
