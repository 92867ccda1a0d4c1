use Rattle.std.proofs.Common.{◌≡◌, ◌∙◌, ◌+◌, arith, length, ap}
use Rattle.map65.specs.Words.{end_of}
use Rattle.map65.proofs.PaintLemmas.{code_painted}
use Rattle.map65.proofs.marking.paint_code.Goals as goal

pub returns : goal.returns
returns g c =
    let start = c.from-start.ensures ∙ c.start.ensures in
    let end : c.from-start.result + length c.bytes.result.now ≡ end_of c.args.image.now = omega (arith, start, ap length c.bytes.ensures.bytes) in
    code_painted c.args.image.now c.args.cells.now c.paint.new.cells c.requires.blank (rw (end, start) at c.paint.ensures)
