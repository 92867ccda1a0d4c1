use Rattle.std.proofs.Common.{◌∙◌, ap, arith, drop, map, option_map, sym, ◌+◌}
use Rattle.std.specs.Option.{option_or}
use Rattle.info65.specs.Words.{global_given, group_seen, value_in, value_seen}
use Rattle.info65.proofs.GroupLemmas.{value_more, value_none}
use Rattle.info65.proofs.groups.group_values.global_value.Goals as goal

pub returns-in-Some : goal.returns-in-Some
returns-in-Some g c =
    let a = c.args.attribute in
    let gs = c.args.groups.now in
    let i = c.loop-group.group-index in
    let x = c.group-item.result in
    let is = ap (value_in a) (sym c.global_part.ensures) ∙ sym c.value_in.ensures ∙ ap (option_map value_seen) c.in-Some.is in
    sym (sym c.loop-group.invariant ∙ value_more a gs i x (omega arith) c.group-item.is ∙ ap (λ o. option_or o (value_in a (global_given (map group_seen (drop (i + 1) gs))))) is)

pub loop-group-preserved : goal.loop-group-preserved
loop-group-preserved g c =
    let a = c.args.attribute in
    let gs = c.args.groups.now in
    let i = c.loop-group.group-index in
    let x = c.group-item.result in
    let is = ap (value_in a) (sym c.global_part.ensures) ∙ sym c.value_in.ensures ∙ ap (option_map value_seen) c.in_default.is in
    sym (value_more a gs i x (omega arith) c.group-item.is ∙ ap (λ o. option_or o (value_in a (global_given (map group_seen (drop (i + 1) gs))))) is) ∙ c.loop-group.invariant

pub returns : goal.returns
returns g c = sym (value_none c.args.attribute c.args.groups.now c.loop-group.group-index (omega arith)) ∙ c.loop-group.invariant
