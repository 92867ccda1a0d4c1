use Rattle.std.proofs.Common.{◌≡◌, ◌∙◌, ◌-◌, ◌<◌, ◌≤◌, ap, sym, arith, length, map, get_or, true, false}
use Rattle.std.specs.Prelude.{Some}
use Rattle.info65.specs.Words.{NameView, blank_entry, covers, entry_seen}
use Rattle.info65.proofs.PoolLemmas.{below_hit, below_miss, below_none, covering_rest, entries_rise, passed_over, seen_at}
use Rattle.info65.proofs.information.pool.covering_in.Goals as goal

pub count_upto-left-requires : goal.count_upto-left-requires
count_upto-left-requires c = entries_rise c.args.pool.now c.args.entries.now c.requires.names

pub left-init : goal.left-init
left-init c = record { low = c.count_upto-left.ensures.bound; same = covering_rest c.args.pool.now c.args.entries.now c.count_upto-left.result c.args.address c.count_upto-left.ensures.rest c.count_upto-left.ensures.bound }

pub returns-then-covers : goal.returns-then-covers
returns-then-covers c =
    let pool = c.args.pool.now in
    let es = c.args.entries.now in
    let i = c.left.left - 1 in
    let here : i < length es = omega (arith, c.left.invariant.low, c.left-test.true) in
    let v : NameView = entry_seen pool (get_or es i blank_entry) in
    let hit : covers v c.args.address ≡ true = sym c.covers.ensures ∙ c.if-covers.true in
    let at = seen_at pool es i blank_entry here in
    ap (λ (n : NameView). Some n) (c.given_at.ensures ∙ at)
    ∙ sym (below_hit (map (entry_seen pool) es) c.left.left i c.args.address v (omega (arith, c.left-test.true)) at hit)
    ∙ c.left.invariant.same

pub left-preserved : goal.left-preserved
left-preserved c =
    let es = c.args.entries.now in
    let i = c.left.left - 1 in
    let here : i < length es = omega (arith, c.left.invariant.low, c.left-test.true) in
    let pool = c.args.pool.now in
    let v : NameView = entry_seen pool (get_or es i blank_entry) in
    let miss : covers v c.args.address ≡ false = sym c.covers.ensures ∙ c.if-covers.false in
    let below : c.rest_after-left.result ≤ i = omega (arith, c.rest_after-left.ensures.below, c.left-test.true) in
    record {
      low = omega (arith, below, here);
      same = sym (passed_over pool es c.rest_after-left.result i c.args.address below (omega (arith, here)) c.rest_after-left.ensures.passed) ∙ sym (below_miss (map (entry_seen pool) es) c.left.left i c.args.address v (omega (arith, c.left-test.true)) (seen_at pool es i blank_entry here) miss) ∙ c.left.invariant.same;
    }

pub returns : goal.returns
returns c = sym (below_none _ c.left.left c.args.address (omega (arith, c.left-test.false))) ∙ c.left.invariant.same
