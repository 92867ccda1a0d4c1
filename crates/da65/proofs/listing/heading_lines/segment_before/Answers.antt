use Rattle.std.proofs.Common.{◌≡◌, ◌∙◌, ◌+◌, ◌-◌, ◌<◌, ℕ, ap, arith, length, sym}
use Rattle.map65.specs.Words.{MapView, segment_at}
use Rattle.da65.specs.Words.{segment_before}
use Rattle.da65.proofs.NextLine.SegmentLemmas.{segment-after, segment-first, segment-skip}
use Rattle.da65.proofs.listing.heading_lines.segment_before.Goals as goal

pub returns-then-not-is_skipped : goal.returns-then-not-is_skipped
returns-then-not-is_skipped g c =
    let m : MapView = c.args.listed.now in
    let k : ℕ = c.skipped.left - 1 in
    let low : k < length m.image.bytes = omega (arith, c.skipped.invariant.bound, c.requires, c.skipped-test.true) in
    let one : k + 1 ≡ c.skipped.left = omega (arith, c.skipped-test.true) in
    c.segment_at.ensures.segment ∙ ap (segment_at m) c.address-address.ensures
    ∙ sym (segment-after m k low (rw (c.map.ensures.map, c.address-address.ensures) at (sym c.is_skipped.ensures ∙ c.if-not-is_skipped.true))) ∙ ap (segment_before m) one ∙ c.skipped.invariant.same

pub skipped-preserved : goal.skipped-preserved
skipped-preserved g c =
    let m : MapView = c.args.listed.now in
    let k : ℕ = c.skipped.left - 1 in
    let low : k < length m.image.bytes = omega (arith, c.skipped.invariant.bound, c.requires, c.skipped-test.true) in
    let one : k + 1 ≡ c.skipped.left = omega (arith, c.skipped-test.true) in
    record {
      bound = omega (arith, c.skipped.invariant.bound);
      same = sym (segment-skip m k low (rw (c.map.ensures.map, c.address-address.ensures) at (sym c.is_skipped.ensures ∙ c.if-not-is_skipped.false))) ∙ ap (segment_before m) one ∙ c.skipped.invariant.same;
    }

pub returns : goal.returns
returns g c =
    let none : 0 ≡ c.skipped.left = omega (arith, c.skipped-test.false) in
    sym (segment-first c.args.listed.now) ∙ ap (segment_before c.args.listed.now) none ∙ c.skipped.invariant.same
