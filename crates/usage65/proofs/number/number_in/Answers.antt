use Rattle.std.proofs.Common.{arith}
use Rattle.std.specs.Prelude.{Ok, Err}
use Rattle.info65.proofs.Public.{number_great, number_none, number_small}
use Rattle.usage65.specs.Words.{BadNumber, OutOfRange, number_in}
use Rattle.usage65.proofs.number.number_in.Goals as goal

pub returns-in-None-clause-value : goal.returns-in-None-clause-value
unfolding number_in
returns-in-None-clause-value c = number_none (Err BadNumber) (Err OutOfRange) (λ n. Ok n) c.args.radix c.args.most c.args.digits.now c.in-None.ensures.value

pub returns-in-Some-clause-value : goal.returns-in-Some-clause-value
unfolding number_in
returns-in-Some-clause-value c =
    number_small (Err BadNumber) (Err OutOfRange) (λ n. Ok n) c.args.radix c.args.most c.args.digits.now c.in-Some.number c.in-Some.ensures.value (omega (arith, c.ranges.most.fits)) (omega (arith, c.from.ensures, c.if-number-from.true))

pub returns-in-Some-2-clause-value : goal.returns-in-Some-2-clause-value
unfolding number_in
returns-in-Some-2-clause-value c =
    number_great (Err BadNumber) (Err OutOfRange) (λ n. Ok n) c.args.radix c.args.most c.args.digits.now c.in-Some.number c.in-Some.ensures.value (omega (arith, c.from.ensures, c.if-number-from.false))
