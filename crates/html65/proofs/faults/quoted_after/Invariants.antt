use Rattle.std.proofs.Common.{◌≡◌, ◌∷◌, length}
use Rattle.html65.specs.Links.{quoted_after}
use Rattle.html65.proofs.faults.quoted_after.Given as goal

abbrev pub invariant-rests : goal.invariant-rests
invariant-rests l = quoted_after (32 ∷ l.more) l.rest ≡ quoted_after (32 ∷ l.more) l.tag

abbrev pub decreases-rests : goal.decreases-rests
decreases-rests l = length l.rest
