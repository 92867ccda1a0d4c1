use Rattle.std.proofs.Common.{◌≡◌, ◌++◌, length}
use Rattle.files65.specs.Message.{shown, shown_from}
use Rattle.files65.proofs.message.put_in_line.Given as goal

abbrev pub invariant-bytes : goal.invariant-bytes
invariant-bytes l = l.out.items ++ shown_from l.after_c2 l.rest ≡ l.initial.out.items ++ shown l.fn.bytes

abbrev pub decreases-bytes : goal.decreases-bytes
decreases-bytes l = length l.rest
