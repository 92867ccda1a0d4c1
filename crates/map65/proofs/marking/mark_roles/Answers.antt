use Rattle.std.proofs.Common.{◌≡◌, ◌+◌, ◌-◌, ◌<◌, ℕ, List, arith, drop, length, sym, subst}
use Rattle.map65.specs.Words.{ArePainted, Code, MapView, RangeSpec}
use Rattle.map65.proofs.PaintLemmas.{none-named, none-marked, painted-more}
use Rattle.map65.proofs.marking.mark_roles.Goals as goal

abbrev blank_range : RangeSpec
blank_range = record { first = 0; last = 0; role = Code }

pub painting-preserved : goal.painting-preserved
painting-preserved g c =
    let left = c.painting.left in
    let ranges = c.ranges-ranges.result.now in
    let below : left - 1 < length ranges = omega (arith, c.painting.invariant.bound, c.painting-test.true) in
    let place : left ≡ left - 1 + 1 = omega (arith, c.painting-test.true) in
    let same = c.ranges-ranges.ensures.ranges in
    let before : ArePainted c.args.image.now (drop (left - 1 + 1) ranges) c.painting.cells =
    subst (λ (n : ℕ). ArePainted c.args.image.now (drop n ranges) c.painting.cells) place
    (subst (λ (l : List RangeSpec). ArePainted c.args.image.now (drop left l) c.painting.cells) (sym same) c.painting.invariant.painted) in
    record {
      bound = omega (arith, c.painting.invariant.bound);
      painted = subst (λ (l : List RangeSpec). ArePainted c.args.image.now (drop (left - 1) l) c.paint_range.new.cells) same
          (painted-more c.args.image.now ranges (left - 1) blank_range c.painting.cells c.paint_range.new.cells below before c.paint_range.ensures);
    }

pub returns : goal.returns
returns g c =
    let m : MapView = record { info = c.args.info.now; image = c.args.image.now } in
    let none : c.painting.left ≡ 0 = omega (arith, c.painting-test.false) in
    record {
      sound = c.mark_borders.ensures.sound;
      marked = none-marked m c.painting.left c.painting.cells c.mark_borders.new.cells none c.painting.invariant.painted c.mark_borders.ensures.marked;
      named = none-named m c.painting.left c.painting.cells c.mark_borders.new.cells none c.painting.invariant.painted c.mark_borders.ensures.marked;
    }
