-- Which instructions count as shown.
use Rattle.std.proofs.Common.{◌≡◌, ℕ, Some, arith, false}
use Rattle.std.proofs.lemmas.Bool.Decides.{nat_tests}
use Rattle.isa65.specs.Words.{len_of}
use Rattle.isa65.specs.declared.op.Op.{Op}
use Rattle.map65.specs.Words.{MapView, item_len}
use Rattle.trace65.specs.Unshown.{lacks_item}

-- those that an item is as long as: a longer one does not show them either
shown_exactly : (shown : MapView) (a : ℕ) (op : Op) → lacks_item shown a (Some op) ≡ false → item_len shown a ≡ len_of op.mode
shown_exactly shown a op e = grind (arith, nat_tests)
