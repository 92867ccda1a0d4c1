use Rattle.std.proofs.Common.{◌∙◌, ap, option_map, sym}
use Rattle.std.specs.Prelude.{Option, option_to_list}
use Rattle.info65.specs.Words.{parts_seen}
use Rattle.info65.specs.Types.{SegmentParts}
use Rattle.info65.proofs.SegmentLemmas.{marked_more, marked_same}
use Rattle.info65.proofs.groups.segment_groups.mark_segment.Goals as goal

pub returns-in-Some : goal.returns-in-Some
returns-in-Some g c = λ said is before m. marked_more before said (parts_seen c.in-Some.segment) c.args.table.now.items c.mark.new.table.items (ap (λ (o : Option SegmentParts). option_to_list (option_map parts_seen o)) (sym c.in-Some.is) ∙ is) c.mark.ensures m

pub returns-in_default : goal.returns-in_default
returns-in_default g c = λ said is before m. marked_same before said c.args.table.now.items (ap (λ (o : Option SegmentParts). option_to_list (option_map parts_seen o)) (sym c.in_default.is) ∙ is) m
