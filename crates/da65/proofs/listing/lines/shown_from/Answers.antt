use Rattle.std.proofs.Common.{◌≡◌, ◌∙◌, ℕ, ◌+◌, ◌<◌, length, true, ap, arith, sym}
use Rattle.map65.specs.Words.{MapView, is_skip, role_of}
use Rattle.da65.proofs.Groups.GroupLemmas.{place-skip}
use Rattle.da65.proofs.NextLine.NextLemmas.{lines-end, lines-skip}
use Rattle.da65.proofs.listing.lines.shown_from.Goals as goal

pub loop-at-preserved : goal.loop-at-preserved
loop-at-preserved g c =
    let low : c.loop-at.at < length c.args.listed.now.image.bytes = rw (← c.bytes-at-end.ensures.bytes) c.loop-at-test.true in
    let skip : is_skip (role_of c.args.listed.now.info (c.args.listed.now.image.start + c.loop-at.at)) ≡ true =
    ap (λ (a : ℕ). is_skip (role_of c.args.listed.now.info a)) (sym c.address.ensures) ∙ sym (ap (λ (m : MapView). is_skip (role_of m.info c.address.result)) c.map.ensures.map) ∙ sym c.is_skipped.ensures ∙ c.if-not-is_skipped.false in
    record {
      place = place-skip _ _ c.loop-at.invariant.place low skip;
      lines = lines-skip _ _ c.loop-at.invariant.place low skip ∙ c.loop-at.invariant.lines;
    }

pub returns-clause-lines : goal.returns-clause-lines
returns-clause-lines g c = sym c.loop-at.invariant.lines ∙ lines-end _ _ (omega (arith, c.loop-at-test.false, c.loop-at.invariant.place.bound, ap length c.bytes-at-end.ensures.bytes))
