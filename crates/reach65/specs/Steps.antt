-- A table of the instructions of an image, by their addresses.
use Rattle.std.specs.Prelude.{◌≡◌, ℕ, ◌-◌, ◌≤◌, List, Option, Some, None, option_map, unwrap_or}
use Rattle.std.specs.List.{slice_get}
use Rattle.reach65.specs.Types.{Step}
use Rattle.reach65.specs.Flow.{FlowView, goal_at, instruction_at, next_at}

abbrev pub next_in : Option Step → Option ℕ
next_in None = None
next_in (Some s) = s.next

abbrev pub goal_in : Option Step → Option ℕ
goal_in None = None
goal_in (Some s) = s.goal

-- what is said of an address is the instruction that begins there, and where it leads
pub record IsStep (f : FlowView) (a : ℕ) (s : Option Step) : Type 0 where
  pub op : option_map (λ s. s.op) s ≡ instruction_at f.map a
  pub next : next_in s ≡ next_at f a
  pub goal : goal_in s ≡ goal_at f.map a

-- so it is for each address from the start of the image on
pub record AreSteps (f : FlowView) (steps : List (Option Step)) : Type 0 where
  pub each : (a : ℕ) → f.map.image.start ≤ a → IsStep f a (unwrap_or (slice_get steps (a - f.map.image.start)) None)
