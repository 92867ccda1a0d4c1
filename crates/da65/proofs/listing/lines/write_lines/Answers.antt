use Rattle.std.proofs.lemmas.Result.{err_from_is_err_and}
use Rattle.std.proofs.Common.{arith}
use Rattle.da65.proofs.NextLine.TakenLemmas.{front_taken}
use Rattle.da65.proofs.listing.lines.write_lines.Goals as goal

pub returns-in_err-write_whole-clause-front : goal.returns-in_err-write_whole-clause-front
returns-in_err-write_whole-clause-front g c =
    let p = err_from_is_err_and c.from_residual.result c.from_residual.ensures.1 in
    rw p.1 (front_taken c.lines.lines c.next_line.new.self c.next_line.new.out.items c.lines.invariant.taken (grind arith) (rw (← c.as_slice.ensures.value) c.in_err-write_whole.ensures.front))
