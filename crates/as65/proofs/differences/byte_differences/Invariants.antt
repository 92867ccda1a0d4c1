use Rattle.std.proofs.Common.{◌+◌, ◌-◌, ◌≤◌, ◌++◌, List, length}
use Rattle.as65.specs.Words.{AreDifferences, AreRuns, IsReached, Stretch, compared, difference_lines, differs, ended}
use Rattle.as65.proofs.differences.byte_differences.Given as goal

-- with the lines of the stretches that are left it is what differs
abbrev pub invariant-stretches : goal.invariant-stretches
invariant-stretches l = let c = compared l.fn.image l.fn.listed in record {
  old : l.from ≤ length l.old;
  new : l.from ≤ length l.new;
  reached : IsReached c.lines l.reached;
  above : l.reached.above ≤ ended (c.start + l.from) c.ends;
  whole : (later : List Stretch) → AreRuns (differs l.old l.new) l.from later
      → AreDifferences c (l.out.items ++ difference_lines c later);
}

abbrev pub decreases-stretches : goal.decreases-stretches
decreases-stretches l = length l.old - l.from
