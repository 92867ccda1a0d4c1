use Rattle.std.proofs.Common.{◌≡◌, ◌+◌, drop, min, take}
use Rattle.std.specs.Char.{is_digit}
use Rattle.std.specs.List.{prefix_len}
use Rattle.std.specs.Str.Parse.{digits_value}
use Rattle.info65.proofs.syntax.digits.digits_at.Given as goal

abbrev pub invariant-loop-size : goal.invariant-loop-size
invariant-loop-size l = record {
  size : prefix_len (λ b. is_digit b l.radix) l.bytes ≡ l.size + prefix_len (λ b. is_digit b l.radix) (drop l.size l.bytes);
  value : l.value ≡ min (digits_value l.radix (take l.size l.bytes)) l.limit;
}
