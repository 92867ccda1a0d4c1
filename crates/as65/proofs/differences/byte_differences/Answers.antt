use Rattle.std.proofs.Common.{[], ◌∷◌, arith}
use Rattle.as65.specs.Words.{AreRuns, compared}
use Rattle.as65.proofs.PassingLemmas.{one_line, passing}
use Rattle.as65.proofs.differences.byte_differences.Goals as goal

pub stretches-preserved : goal.stretches-preserved
unfolding AreRuns
stretches-preserved c =
    let s = c.in-Some.field-0 in
    let is = c.in-Some.ensures in
    let reached = c.of_byte-reached.ensures.reached _ c.stretches.invariant.reached in record {
      old = is.one;
      new = is.other;
      reached = reached;
      above = grind (arith, passing);
      whole = λ later runs.
          one_line (compared c.args.image.now c.args.listed.now) s c.of_byte-reached.result _ _ _ later reached (rw (c.from.ensures, c.start.ensures, c.ends.ensures) at c.of_byte-reached.ensures.above)
          (rw (c.from.ensures, c.start.ensures, c.bytes-old.ensures.bytes, c.bytes-new.ensures) at c.in_ok-put_change.ensures) c.in_ok-put_origin.ensures
          (c.stretches.invariant.whole (s ∷ later) (is.low, is.before, is.some, is.inside, is.after, runs));
    }

pub returns : goal.returns
unfolding AreRuns
returns c = rw (c.in_ok-put_lengths.ensures, c.bytes-old.ensures.bytes, c.bytes-new.ensures) (c.stretches.invariant.whole [] c.in_default.ensures.none)
