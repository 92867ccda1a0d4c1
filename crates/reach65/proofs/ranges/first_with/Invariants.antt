use Rattle.std.proofs.Common.{◌≡◌, ◌<◌, ◌≤◌, ℕ, not}
use Rattle.map65.specs.Words.{is_marked}
use Rattle.reach65.proofs.ranges.first_with.Given as goal

abbrev pub invariant-marks : goal.invariant-marks
invariant-marks g l = (a : ℕ) → l.from ≤ a → a < l.at → is_marked l.marks a ≡ not l.is
