use Rattle.std.proofs.Common.{◌==◌, List, ap, arith, subst, ℕ}
use Rattle.std.proofs.lemmas.List.{take_all}
use Rattle.info65.specs.Words.{NameView, blank_name}
use Rattle.map65.specs.Words.{Changes, is_own, nowhere, with_name}
use Rattle.map65.proofs.CellLemmas.{with_name_again}
use Rattle.map65.proofs.ChangeLemmas.{changes_more, changes_none}
use Rattle.map65.proofs.NamingLemmas.{names_added, names_keep}
use Rattle.map65.proofs.naming.mark_own.Goals as goal

pub loop-i-init : goal.loop-i-init
unfolding is_own
loop-i-init g c = changes_none with_name c.args.cells.now c.requires.count

pub loop-i-preserved : goal.loop-i-preserved
unfolding is_own
loop-i-preserved g c =
    changes_more with_name with_name_again (λ (n : NameView) (a : ℕ). n.address == a) c.args.info.now.names c.loop-i.i blank_name c.args.cells.now c.loop-i.cells c.mark.new.cells (omega (arith, c.loop-i-test.true, c.given_count-i-end.ensures.count)) c.loop-i.invariant
    (subst (λ (n : ℕ). Changes with_name (λ a. n == a) c.loop-i.cells c.mark.new.cells) (ap (λ (v : NameView). v.address) c.given.ensures.name) c.mark.ensures)

pub returns : goal.returns
returns g c =
    let names = c.args.info.now.names in
    let all : Changes with_name (is_own names) c.args.cells.now c.loop-i.cells =
    subst (λ (l : List NameView). Changes with_name (is_own l) c.args.cells.now c.loop-i.cells) (take_all c.loop-i.i names (omega (arith, c.loop-i-test.false, c.given_count-i-end.ensures.count))) c.loop-i.invariant in
    record {
      sound = c.given_count-i-end.ensures.sound;
      keeps = names_keep (is_own names) c.args.cells.now c.loop-i.cells all;
      named = names_added nowhere (is_own names) c.args.cells.now c.loop-i.cells all c.requires.named;
    }
