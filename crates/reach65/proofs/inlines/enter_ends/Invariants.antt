use Rattle.reach65.proofs.TableLemmas.{AreEntered}
use Rattle.reach65.proofs.inlines.enter_ends.Given as goal

abbrev pub invariant-bytes : goal.invariant-bytes
invariant-bytes l = AreEntered l.image l.i l.end l.ends
