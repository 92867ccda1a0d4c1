use Rattle.std.proofs.Common.{◌≡◌, ◌∙◌, ℕ, List, ap, arith, drop, take}
use Rattle.std.specs.List.{prefix_len}
use Rattle.da65.specs.Words.{is_unnamed}
use Rattle.da65.proofs.NextLine.ConstantLemmas.{unnamed-between}
use Rattle.da65.proofs.listing.constant_lines.named_from.Goals as goal

pub split_at-requires : goal.split_at-requires
split_at-requires g c = omega (arith, c.requires.bound, c.cells.ensures.count)

pub returns-clause-between : goal.returns-clause-between
returns-clause-between g c = λ a low high.
    let rest : c.split_at-2.result.1.now ≡ drop c.args.from (take c.args.end c.cells.result.now) = c.split_at-2.ensures.back ∙ ap (λ (l : List ℕ). drop c.args.from l) c.split_at.ensures.front in
    let value = c.unnamed_before.ensures.value ∙ ap (λ (l : List ℕ). prefix_len is_unnamed l) rest in
    unnamed-between c.args.map.now c.cells.result.now c.args.from c.args.end c.cells.ensures c.requires.order c.requires.bound a low (omega (arith, high, value))
