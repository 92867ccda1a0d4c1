use Rattle.std.proofs.Common.{◌∙◌, ◌+◌, ℕ, List, ap, sym}
use Rattle.std.specs.List.{list_all, prefix_len}
use Rattle.da65.specs.Words.{BLOCK, is_unnamed}
use Rattle.da65.proofs.NextLine.ConstantLemmas.{unnamed_past}
use Rattle.da65.proofs.listing.constant_lines.after_unnamed.Goals as goal

pub returns-then-are_unnamed-clause-unnamed : goal.returns-then-are_unnamed-clause-unnamed
returns-then-are_unnamed-clause-unnamed c =
    unnamed_past BLOCK c.args.cells.now c.if-cells-lt-BLOCK.false (ap (list_all is_unnamed) (sym c.split_at.ensures.front) ∙ sym c.are_unnamed.ensures ∙ c.if-are_unnamed.true)
    ∙ ap (λ (l : List ℕ). BLOCK + prefix_len is_unnamed l) (sym c.split_at.ensures.back)
