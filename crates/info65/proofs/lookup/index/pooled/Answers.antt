use Rattle.std.proofs.Common.{◌≡◌, ◌∙◌, ◌*◌, ◌+◌, ◌++◌, ◌∷◌, [], ap, arith, length, map, sym}
use Rattle.std.specs.Prelude.{List, None, Ok, Some, get_or}
use Rattle.std.proofs.lemmas.List.{append-nil}
use Rattle.info65.specs.Words.{NameView, by_address, given_seen, named_at, names_from, numbered}
use Rattle.info65.proofs.Cases.{same_ok}
use Rattle.info65.proofs.NamesLemmas.{names_next, number_here, page_rest}
use Rattle.info65.proofs.lookup.index.pooled.Goals as goal

pub loop-page-init : goal.loop-page-init
unfolding names_from
loop-page-init g c = sym (same_ok c.in_ok-pool.ensures)

pub loop-number-preserved-in_default : goal.loop-number-preserved-in_default
loop-number-preserved-in_default g c =
    let numbers = c.args.numbers.now in
    let p = c.loop-page.page in
    let k = c.loop-number.number-index in
    let next : p * 256 + (k + 1) ≡ p * 256 + k + 1 = omega arith in
    let number = ap (λ l. get_or l k 0) c.page-number-items.ensures.numbers ∙ sym (number_here numbers p k (omega (arith, c.page-number-items.ensures.bound))) in
    rw next (c.loop-number.invariant ∙ sym (names_next c.args.names.now numbers (p * 256 + k) None (c.requires (p * 256 + k)) (c.in_default.ensures ∙ ap (numbered c.args.names.now) number) ∙ append-nil _))

pub loop-number-preserved : goal.loop-number-preserved
loop-number-preserved g c =
    let numbers = c.args.numbers.now in
    let p = c.loop-page.page in
    let k = c.loop-number.number-index in
    let next : p * 256 + (k + 1) ≡ p * 256 + k + 1 = omega arith in
    let number = ap (λ l. get_or l k 0) c.page-number-items.ensures.numbers ∙ sym (number_here numbers p k (omega (arith, c.page-number-items.ensures.bound))) in
    rw next (c.in_ok-add.ensures.done ∙ ap (λ (l : List NameView). l ++ given_seen c.in-Some.name ∷ []) c.loop-number.invariant
    ∙ sym (names_next c.args.names.now numbers (p * 256 + k) (Some c.in-Some.name) (c.requires (p * 256 + k)) (c.in-Some.ensures ∙ ap (numbered c.args.names.now) number)))

pub loop-page-preserved : goal.loop-page-preserved
loop-page-preserved g c =
    let long = ap length c.page-number-items.ensures.numbers in
    c.loop-number.invariant
    ∙ sym (page_rest c.args.names.now c.args.numbers.now c.loop-page.page c.loop-number.number-index (omega (arith, long, c.loop-number-test.false)) (omega (arith, c.page-number-items.ensures.bound, c.loop-number.auto.number-index-end)) c.requires)

pub returns : goal.returns
unfolding by_address
returns g c =
    let e : c.loop-page.page * 256 ≡ 0x1_0000 = omega arith in
    ap (λ (l : List NameView). Ok l) (sym (c.loop-page.invariant ∙ ap (names_from (named_at (map given_seen c.args.names.now)) 0) e))
