use Rattle.std.proofs.Common.{ap, arith, length}
use Rattle.map65.specs.Words.{is_marked}
use Rattle.reach65.proofs.RangesLemmas.{ranges_first, ranges_more}
use Rattle.reach65.proofs.ranges.ranges_of.Goals as goal

pub pieces-init : goal.pieces-init
pieces-init g c =
    let count = ap length c.bytes.ensures.bytes in
    let first = c.first_with-first.ensures in
    ranges_first c.args.image.now (is_marked c.args.taken.now) c.first_with-first.result c.new-ranges.result.items c.new-ranges.ensures.items
    (omega arith) (omega (arith, count)) (λ some. first.first (omega (arith, count, some))) (λ a low high. first.others a (omega (arith, low)) high)

pub pieces-preserved : goal.pieces-preserved
pieces-preserved g c =
    let count = ap length c.bytes.ensures.bytes in
    let here = c.pieces.invariant.free (omega (arith, count)) in
    let next = c.first_with-first-in-pieces.ensures in
    ranges_more c.args.image.now (is_marked c.args.taken.now) c.first_with-first-in-pieces.result _ c.pieces.ranges.items c.push.new.self.items c.in_ok-push.ensures.items
    (omega arith) (omega arith) (omega (arith, count)) (λ some. next.first (omega (arith, count, some)))
    (λ a low high. grind (arith, here, c.first_with-after.ensures.others a)) (λ a low high. next.others a (omega (arith, low)) high) c.pieces.invariant
