use Rattle.std.proofs.Common.{◌∙◌, arith}
use Rattle.trace65.proofs.ReportLemmas.{accepted, all_text}
use Rattle.trace65.proofs.report.unshown_with.Goals as goal

pub returns-clause-read : goal.returns-clause-read
returns-clause-read c =
    let more = c.in_ok-add_unshown.ensures in
    accepted _ _ _ _ c.in_ok-info.info c.extend_from_slice.new.self.items _ c.in_ok-unshown.unshown.items _ _ _ c.in_ok-map.map
    (grind arith) c.deref-5.ensures.value more.added (more.accepted c.args.options.now c.in_ok-info.info (grind arith)) (c.deref-3.ensures.value ∙ c.in_ok-ranges.ensures) c.deref-4.ensures.value c.in_ok-info.ensures.says
    (grind arith) c.in_ok-unshown.ensures

pub returns-clause-text : goal.returns-clause-text
returns-clause-text c = all_text c.args.file.now c.args.found.now c.extend_from_slice.new.self.items _ c.in_ok-unshown.unshown.items _ (grind arith) c.deref-5.ensures.value c.in_ok-add_unshown.ensures.added
