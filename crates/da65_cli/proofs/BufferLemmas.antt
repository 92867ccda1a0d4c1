-- What a sink and the buffer in front of it have taken together.
use Rattle.std.proofs.Common.{◌≡◌, ℕ, ◌-◌, ◌≤◌, List, [], ◌++◌, length, take, drop, Option, ap, arith, refl}
use Rattle.std.proofs.lemmas.List.{length-drop, length-take-le}
use Rattle.std.specs.Io.KnownBytes.{Appends, Keeps, append_known}
use Rattle.std.proofs.KnownBytes.{Keeps-refl, append_known-grown}

-- bytes that come after those that were kept
pub appends_after : (old mid : Option (List ℕ)) (bytes more : List ℕ) → Keeps old (append_known mid bytes) → Appends old (append_known mid (bytes ++ more)) more
appends_after old mid bytes more k = append_known-grown old mid bytes (bytes ++ more) more k refl

-- and so where nothing was passed on
pub appends_more : (taken : Option (List ℕ)) (bytes more : List ℕ) → Appends (append_known taken bytes) (append_known taken (bytes ++ more)) more
appends_more taken bytes more = appends_after (append_known taken bytes) taken bytes more (Keeps-refl (append_known taken bytes))

-- where no byte waits, all were taken
pub all_taken : (xs : List ℕ) (first end : ℕ) → first ≤ end → end ≤ length xs → drop first (take end xs) ≡ [] → first ≡ end
all_taken xs first end low high none =
    let len : length (drop first (take end xs)) ≡ length (take end xs) - first = length-drop first (take end xs) in
    omega (arith, low, high, len, length-take-le end xs high, ap length none)
