use Rattle.std.proofs.Common.{◌∙◌, ap, sym}
use Rattle.std.specs.Prelude.{option_to_list}
use Rattle.info65.proofs.IndexLemmas.{ranged_more, ranged_same}
use Rattle.info65.proofs.groups.range_groups.add_range.Goals as goal

pub returns-in-Some-clause-marked : goal.returns-in-Some-clause-marked
returns-in-Some-clause-marked g c = λ said is before m. ranged_more before said c.in-Some.range c.args.table.now.items c.mark.new.table.items (ap option_to_list (sym c.in-Some.is) ∙ is) c.mark.ensures m

pub returns-in_default-clause-marked : goal.returns-in_default-clause-marked
returns-in_default-clause-marked g c = λ said is before m. ranged_same before said c.args.table.now.items (ap option_to_list (sym c.in_default.is) ∙ is) m
