use Rattle.std.proofs.Common.{◌∙◌, ◌+◌, ◌<◌, ap, arith, length, max, subst, sym}
use Rattle.info65.specs.Words.{NameView, name_at}
use Rattle.map65.specs.Words.{Changes, Reaches, is_covered_below, is_within, with_name}
use Rattle.map65.proofs.ChangeLemmas.{changes_none}
use Rattle.map65.proofs.NamingLemmas.{covered_end, covered_next, names_keep, reaches_more, reaches_none}
use Rattle.map65.proofs.naming.mark_covered.Goals as goal

pub loop-i-init : goal.loop-i-init
loop-i-init g c = record { marked = changes_none with_name c.args.cells.now c.requires.count; reaches = reaches_none c.args.info.now.names 0 (omega arith) }

pub loop-i-preserved : goal.loop-i-preserved
loop-i-preserved g c =
    let names = c.args.info.now.names in
    let i = c.loop-i.i in
    let below : i < length names = omega (arith, c.loop-i-test.true, c.given_count-i-end.ensures.count) in
    let span : Changes with_name (is_within (max (name_at names i).address c.loop-i.reach) ((name_at names i).address + (name_at names i).size)) c.loop-i.cells c.mark_name-reach.new.cells =
    subst (λ (v : NameView). Changes with_name (is_within (max v.address c.loop-i.reach) (v.address + v.size)) c.loop-i.cells c.mark_name-reach.new.cells) c.given.ensures.name c.mark_name-reach.ensures.marked in
    record {
      marked = covered_next names c.given.ensures.sound i c.loop-i.reach below c.loop-i.invariant.reaches c.args.cells.now c.loop-i.cells c.mark_name-reach.new.cells c.loop-i.invariant.marked span;
      reaches = subst (Reaches names (i + 1)) (sym (c.mark_name-reach.ensures.reach ∙ ap (λ (v : NameView). max c.loop-i.reach (v.address + v.size)) c.given.ensures.name)) (reaches_more names c.given.ensures.sound i c.loop-i.reach below c.loop-i.invariant.reaches);
    }

pub returns : goal.returns
returns g c = record {
  keeps = names_keep (is_covered_below c.args.info.now.names c.loop-i.i) c.args.cells.now c.loop-i.cells c.loop-i.invariant.marked;
  named = covered_end c.args.info.now.names c.loop-i.i c.args.cells.now c.loop-i.cells c.given_count-i-end.ensures.sound (omega (arith, c.loop-i-test.false, c.given_count-i-end.ensures.count)) c.requires.named c.loop-i.invariant.marked;
}
