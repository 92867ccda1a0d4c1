use Rattle.std.proofs.Common.{◌≡◌, arith, false, true}
use Rattle.stmt65.specs.Words.{is_mark, parts_left}
use Rattle.name65.proofs.ComparedLemmas.{labelled, unlabelled}
use Rattle.name65.proofs.compared.head_of.Goals as goal

pub returns-then-take_colon : goal.returns-then-take_colon
returns-then-take_colon c =
    let colon : is_mark 58 (parts_left c.take_part.new.places) ≡ true = grind (arith, c.take_colon.ensures.is, c.if-take_colon.true) in
    labelled _ _ _ _ _ _ _ (rw c.new-places.ensures at c.in_ok-first.ensures) colon c.if-take_colon.ensures.left c.in_ok-take_part.ensures c.word_of.ensures

pub returns : goal.returns
returns c =
    let none : is_mark 58 (parts_left c.take_part.new.places) ≡ false = grind (arith, c.take_colon.ensures.is, c.if-take_colon.false) in
    unlabelled _ _ _ _ (rw c.new-places.ensures at c.in_ok-first.ensures) none c.word_of-2.ensures
