-- What known bytes are after one write and then another.
use Rattle.std.proofs.Common.{arith, ℕ, ◌-◌, List, length, take, drop, Option, append_assoc}
use Rattle.std.proofs.lemmas.List.{take-append-drop, take_rest}
use Rattle.std.specs.Io.KnownBytes.{Appends}
use Rattle.std.proofs.KnownBytes.{Appends-trans}
use Rattle.map65.specs.Words.{HasTaken}

-- a write took n bytes of what was left
pub taken_more : {old mid new : Option (List ℕ)} {text rest : List ℕ} (n : ℕ) → HasTaken old mid text rest → Appends mid new (take n rest) → HasTaken old new text (take (length rest - n) (drop n rest))
taken_more {old} {mid} {new} {text} {rest} n h w = grind (arith, take_rest, append_assoc, take-append-drop, Appends-trans)
