use Rattle.std.proofs.Common.{◌∙◌, ◌++◌, ap, append_assoc, arith, drop, map, sym, ◌+◌}
use Rattle.std.specs.Prelude.{Ok}
use Rattle.std.proofs.lemmas.List.{append-nil}
use Rattle.info65.specs.Words.{group_seen, include_part, includes_of}
use Rattle.info65.proofs.IncludeLemmas.{formed_at, includes_next, includes_none}
use Rattle.info65.proofs.groups.include_groups.includes_of.Goals as goal

pub push_include-requires : goal.push_include-requires
push_include-requires g c = formed_at c.args.groups.now c.loop-group.group-index c.group-item.result (omega arith) c.group-item.is c.requires

pub loop-group-preserved : goal.loop-group-preserved
loop-group-preserved g c =
    let gs = c.args.groups.now in
    let i = c.loop-group.group-index in
    let x = c.group-item.result in
    let rest = includes_of (map group_seen (drop (i + 1) gs)) in
    let next = includes_next gs i x (omega arith) c.group-item.is in
    ap (λ l. l ++ rest) c.in_ok-push_include.ensures.done ∙ append_assoc c.loop-group.includes.items (include_part (group_seen x)) rest ∙ ap (λ l. c.loop-group.includes.items ++ l) (sym next) ∙ c.loop-group.invariant

pub returns : goal.returns
returns g c =
    let none = includes_none c.args.groups.now c.loop-group.group-index (omega arith) in
    ap (λ l. Ok l) (sym (sym (append-nil c.loop-group.includes.items) ∙ ap (λ l. c.loop-group.includes.items ++ l) (sym none) ∙ c.loop-group.invariant))
