use Rattle.std.proofs.Common.{arith}
use Rattle.std.specs.Prelude.{Some, None}
use Rattle.info65.specs.Words.{number_in}
use Rattle.info65.proofs.NumberLemmas.{number_great, number_none, number_small}
use Rattle.info65.proofs.syntax.lexeme.number_in.Goals as goal

pub returns-in-Some-clause-value : goal.returns-in-Some-clause-value
unfolding number_in
returns-in-Some-clause-value c =
    number_small None None (λ n. Some n) c.args.radix 0xFFFF_FFFF c.args.digits.now c.in-Some.value c.in-Some.ensures.value (omega arith) (omega (arith, c.from.ensures, c.if-value-from.true))

pub returns-in_default-clause-value : goal.returns-in_default-clause-value
unfolding number_in
returns-in_default-clause-value c =
    number_great None None (λ n. Some n) c.args.radix 0xFFFF_FFFF c.args.digits.now c.in-Some.value c.in-Some.ensures.value (omega (arith, c.from.ensures, c.if-value-from.false))

pub returns-in_default-2-clause-value : goal.returns-in_default-2-clause-value
unfolding number_in
returns-in_default-2-clause-value c = number_none None None (λ n. Some n) c.args.radix 0xFFFF_FFFF c.args.digits.now c.in_default.ensures.value
