use Rattle.std.proofs.Common.{◌-◌, ap, arith, length}
use Rattle.std.proofs.lemmas.Bool.Decides.{nat_tests}
use Rattle.reach65.proofs.TableLemmas.{ends_blank, ends_more}
use Rattle.reach65.proofs.inlines.enter_ends.Goals as goal
use Rattle.reach65.proofs.inlines.enter_ends.Goals.{else-bytes-i-eq0, then-bytes-i-eq0}

pub bytes-init : goal.bytes-init
bytes-init c = ends_blank c.args.image.now (length c.bytes-bytes.result.now) c.args.ends.now (ap length c.bytes-bytes.ensures.bytes) c.requires

pub bytes-preserved : goal.bytes-preserved
bytes-preserved c =
    let count = ap length c.bytes-bytes.ensures.bytes in
    ends_more c.args.image.now (c.bytes.i - 1) c.bytes.i c.if-bytes-i-eq0.end c.bytes.end c.bytes.ends (omega arith) (omega (arith, count)) (omega (arith, count))
    (elim c.if-bytes-i-eq0.branch [ then-bytes-i-eq0 w ↦ grind (arith, nat_tests) | else-bytes-i-eq0 w ↦ grind (arith, nat_tests) ])
    c.bytes.invariant
