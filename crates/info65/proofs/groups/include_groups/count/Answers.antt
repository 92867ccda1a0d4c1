use Rattle.std.proofs.Common.{◌∙◌, ◌+◌, ap, arith, drop, length, length-append, map, List}
use Rattle.info65.specs.Words.{IncludeView, group_seen, include_part, includes_of}
use Rattle.info65.proofs.IncludeLemmas.{includes_next, includes_none, part_length}
use Rattle.info65.proofs.groups.include_groups.count.Goals as goal

pub loop-group-preserved : goal.loop-group-preserved
loop-group-preserved g c =
    let gs = c.args.groups.now in
    let i = c.loop-group.group-index in
    let x = c.group-item.result in
    let rest = includes_of (map group_seen (drop (i + 1) gs)) in
    let next = ap (λ (l : List IncludeView). length l) (includes_next gs i x (omega arith) c.group-item.is) ∙ length-append (include_part (group_seen x)) rest in
    let few = part_length (group_seen x) in
    record {
      same = omega (arith, next, c.counted-count.ensures, c.loop-group.invariant.same);
      bound = omega (arith, few, c.counted-count.ensures, c.loop-group.invariant.bound);
    }

pub returns : goal.returns
returns g c =
    let none = ap (λ (l : List IncludeView). length l) (includes_none c.args.groups.now c.loop-group.group-index (omega arith)) in
    omega (arith, none, c.loop-group.invariant.same)
