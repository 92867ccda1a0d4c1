-- The status with which the program ends.
use Rattle.std.specs.Prelude.{ℕ, Bool, Option, Some, None, if◌then◌else◌}
use Rattle.as65.specs.Types.{Differs, Done, Ended}

-- 0 for what was done, 1 for bytes that differ; for trouble, which has no end, 2 if
-- a comparison was asked for and else 1
abbrev pub status_of : Bool → Option Ended → ℕ
status_of comparing (Some Done) = 0
status_of comparing (Some Differs) = 1
status_of comparing None = if comparing then 2 else 1
