use Rattle.std.proofs.Common.{◌≡◌, ◌&&◌, drop}
use Rattle.std.specs.List.{list_all}
use Rattle.da65.specs.Words.{is_unnamed}
use Rattle.da65.proofs.listing.constant_lines.are_unnamed.Given as goal

abbrev pub invariant-loop-cell : goal.invariant-loop-cell
invariant-loop-cell l = (l.unnamed && list_all is_unnamed (drop l.cell-index l.cells)) ≡ list_all is_unnamed l.cells
