use Rattle.std.proofs.Common.{arith}
use Rattle.info65.proofs.NumberLemmas.{whole_number}
use Rattle.info65.proofs.syntax.digits.number_of_digits.Goals as goal

pub returns-then-size-digits-clause-value : goal.returns-then-size-digits-clause-value
returns-then-size-digits-clause-value c =
    let is = whole_number c.args.radix c.args.digits.now _ _ c.digits_at-size.ensures.size c.digits_at-size.ensures.value in
    grind arith

pub returns-else-size-gt0-clause-value : goal.returns-else-size-gt0-clause-value
returns-else-size-gt0-clause-value c =
    let is = whole_number c.args.radix c.args.digits.now _ _ c.digits_at-size.ensures.size c.digits_at-size.ensures.value in
    grind arith
