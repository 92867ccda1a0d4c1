use Rattle.std.proofs.Common.{◌≡◌, [], arith, false, is_some, rules, true}
use Rattle.std.specs.List.{list_all}
use Rattle.text65.specs.Names.{is_blank}
use Rattle.stmt65.specs.Words.{parts}
use Rattle.name65.specs.Written.{scope_seen}
use Rattle.name65.proofs.ComparedLemmas.{all_done, none_left}
use Rattle.name65.proofs.compared.are_done.Goals as goal

pub returns : goal.returns
returns c = λ done.
    let none : is_some c.in_ok-next_piece.field-0 ≡ false = grind (arith, c.is_some.ensures, c.if-is_some.false) in
    let left : parts c.args.plan.now.language c.args.lines.old.now ≡ [] = none_left _ _ c.in_ok-next_piece.field-0 c.in_ok-next_piece.ensures none in
    let blank : list_all is_blank c.split_at.result.0.now ≡ true = grind (arith, c.are_blank.ensures, c.if-not-are_blank.false) in
    let blank_too : list_all is_blank c.split_at-2.result.0.now ≡ true = grind (arith, c.are_blank-2.ensures, c.if-not-are_blank-2.false) in
    let same : c.split_at.result.1.now ≡ c.split_at-2.result.1.now = search rules in
    all_done (scope_seen c.args.plan.now) c.args.lines c.split_at.result.0.now c.split_at.result.1.now c.split_at-2.result.0.now c.split_at-2.result.1.now
    c.split_at.ensures.by_index.0 c.split_at-2.ensures.by_index.0 blank blank_too same left
