-- Numbers that keep the limits of their type.
use Rattle.std.specs.Prelude.{◌≡◌, ℕ, ◌≤◌, Result, MatchResult}
use Rattle.stmt65.specs.Types.{LimitError}

-- the number becomes a value exactly when it is within the limits; else the error holds it
abbrev pub ConvertsWithin : ℕ → ℕ → ℕ → Result ℕ LimitError → Type 0
ConvertsWithin least greatest n r = MatchResult r
    (λ value. (value ≡ n) × ((least ≤ n) × (n ≤ greatest)))
    (λ error. (error.0 ≡ n) × ¬ ((least ≤ n) × (n ≤ greatest)))
