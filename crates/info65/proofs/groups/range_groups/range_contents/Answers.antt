use Rattle.std.proofs.Common.{◌∙◌, ◌<◌, ap, arith, sym}
use Rattle.info65.specs.Words.{optional_name_fault}
use Rattle.info65.proofs.IndexLemmas.{overlaps_marked, range_apart, range_overlaps}
use Rattle.info65.proofs.RangeLemmas.{bounded_in}
use Rattle.info65.proofs.groups.range_groups.range_contents.Goals as goal

pub returns-then-is_marked-clause-fault : goal.returns-then-is_marked-clause-fault
returns-then-is_marked-clause-fault g c = λ ranges m.
    let r = c.in-Ok.range in
    let low : r.last < 0x1_0000 = omega arith in
    let over = overlaps_marked ranges _ r m.ordered m.ranged (bounded_in _ r (sym c.in-Ok.ensures)).ordered low in
    sym (range_overlaps ranges c.args.names.now _ r _ c.in-Ok.ensures (sym over ∙ sym c.is_marked.ensures ∙ c.if-is_marked.true))

pub returns-in-Some-clause-fault : goal.returns-in-Some-clause-fault
returns-in-Some-clause-fault g c = λ ranges m.
    let r = c.in-Ok.range in
    let low : r.last < 0x1_0000 = omega arith in
    let over = overlaps_marked ranges _ r m.ordered m.ranged (bounded_in _ r (sym c.in-Ok.ensures)).ordered low in
    c.in-Some.ensures ∙ ap (optional_name_fault c.args.names.now) c.range_name-name.ensures
    ∙ sym (range_apart ranges c.args.names.now _ r _ c.in-Ok.ensures (sym over ∙ sym c.is_marked.ensures ∙ c.if-is_marked.false))

pub returns-in-None-clause-fault : goal.returns-in-None-clause-fault
returns-in-None-clause-fault g c = λ ranges m.
    let r = c.in-Ok.range in
    let low : r.last < 0x1_0000 = omega arith in
    let over = overlaps_marked ranges _ r m.ordered m.ranged (bounded_in _ r (sym c.in-Ok.ensures)).ordered low in
    c.in-None.ensures ∙ ap (optional_name_fault c.args.names.now) c.range_name-name.ensures
    ∙ sym (range_apart ranges c.args.names.now _ r _ c.in-Ok.ensures (sym over ∙ sym c.is_marked.ensures ∙ c.if-is_marked.false))
