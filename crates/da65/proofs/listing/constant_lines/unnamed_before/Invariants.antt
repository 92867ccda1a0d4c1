use Rattle.std.proofs.Common.{◌≡◌, ◌≤◌, ◌+◌, ◌-◌, length}
use Rattle.std.specs.List.{prefix_len}
use Rattle.da65.specs.Words.{is_unnamed}
use Rattle.da65.proofs.listing.constant_lines.unnamed_before.Given as goal

abbrev pub invariant-stretches : goal.invariant-stretches
invariant-stretches l = record {
  within : length l.rest ≤ length l.cells;
  same : prefix_len is_unnamed l.cells ≡ length l.cells - length l.rest + prefix_len is_unnamed l.rest;
}

abbrev pub decreases-stretches : goal.decreases-stretches
decreases-stretches l = length l.rest
