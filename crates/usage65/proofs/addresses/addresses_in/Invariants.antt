use Rattle.std.proofs.Common.{◌≡◌, ◌++◌, drop, map}
use Rattle.std.specs.Prelude.{Ok}
use Rattle.usage65.specs.Words.{addresses_in, ◌>>=◌}
use Rattle.usage65.proofs.addresses.addresses_in.Given as goal

-- the addresses so far, and then those of the texts that are left
abbrev pub invariant-texts : goal.invariant-texts
invariant-texts l =
    (addresses_in (map (λ text. text.now) (drop l.text-index l.texts)) >>= λ later. Ok (l.found.items ++ later)) ≡ addresses_in (map (λ text. text.now) l.texts)
