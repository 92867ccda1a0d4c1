use Rattle.std.proofs.Common.{◌≡◌, ◌≤◌, ◌&&◌, ◌||◌, ℕ, max, nat_le, nat_lt}
use Rattle.map65.specs.Words.{is_marked}
use Rattle.map65.proofs.marks.Marks.set_span.Given as goal

abbrev pub invariant-span : goal.invariant-span
invariant-span g l = record {
  upto : l.at ≤ max l.from l.at-end;
  marked : (a : ℕ) → is_marked l.self a ≡ (is_marked l.fn.self a || (nat_le l.from a && nat_lt a l.at));
}
