use Rattle.std.proofs.Common.{arith, refl, ◌∙◌}
use Rattle.stmt65.proofs.KnownLaws.{known_end}
use Rattle.stmt65.proofs.assembling.known.assemble_known.Goals as goal

pub returns-then-count-len : goal.returns-then-count-len
returns-then-count-len g c =
    known_end c.args.source.now c.args.names.now c.lines.count _ c.lines.rest.now c.lines.out.items (omega arith) c.lines.invariant c.in_default.ensures refl (c.if-count-len.true ∙ c.len.ensures)
