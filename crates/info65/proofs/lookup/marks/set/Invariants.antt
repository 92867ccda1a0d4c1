use Rattle.std.proofs.Common.{◌≡◌, ◌<◌, ◌||◌, ◌&&◌, ℕ, false, get_or}
use Rattle.std.specs.Prelude.{nat_le, nat_lt}
use Rattle.info65.proofs.lookup.marks.set.Given as goal

abbrev pub invariant-loop-address : goal.invariant-loop-address
invariant-loop-address l = (a : ℕ) → a < 0x1_0000 → get_or l.table a false ≡ (get_or l.fn.table a false || (nat_le l.fn.first a && nat_lt a l.address))
