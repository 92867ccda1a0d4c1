use Rattle.std.proofs.Common.{◌<◌, arith, get_or, length, lt-ltb}
use Rattle.std.proofs.lemmas.Int.Digits.{digits_value_more}
use Rattle.std.proofs.lemmas.List.Sums.{prefix_len-drop_yes}
use Rattle.std.specs.Char.{digit_value, is_digit}
use Rattle.info65.proofs.NumberLemmas.{capped}
use Rattle.info65.proofs.syntax.digits.digits_at.Goals as goal

pub loop-size-preserved : goal.loop-size-preserved
loop-size-preserved c =
    let bs = c.args.bytes.now in
    let i = c.loop-size.size in
    let here : i < length bs = omega arith in
    let digit : digit_value (get_or bs i 0) < c.args.radix = omega (arith, c.digit_of-digit.ensures, c.from.ensures, c.if-from-radix.false) in
    let more = prefix_len-drop_yes (λ b. is_digit b c.args.radix) bs i 0 here (lt-ltb _ _ digit) in
    record {
      size = omega (arith, c.loop-size.invariant.size, more);
      value = grind (arith, capped, digits_value_more);
    }
