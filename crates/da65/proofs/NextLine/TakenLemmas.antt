-- What known bytes are after the lines of a text.
use Rattle.std.proofs.Common.{arith, ◌∷◌, ◌≡◌, ℕ, List, Option, append_assoc}
use Rattle.std.specs.Io.KnownBytes.{Appends}
use Rattle.std.proofs.KnownBytes.{Appends-trans}
use Rattle.da65.specs.Words.{text_of}
use Rattle.map65.specs.Words.{AppendsFront, HasTaken}

-- the first of the lines that were left is taken
pub line_taken : {old mid new : Option (List ℕ)} {text : List ℕ} (lines rest : List (List ℕ)) (line : List ℕ) → HasTaken old mid text (text_of lines) → lines ≡ line ∷ rest → Appends mid new line → HasTaken old new text (text_of rest)
unfolding text_of
line_taken {old} {mid} {new} {text} lines rest line h e w = grind (arith, append_assoc, Appends-trans)

-- a prefix of it is
pub front_taken : {old mid new : Option (List ℕ)} {text : List ℕ} (lines rest : List (List ℕ)) (line : List ℕ) → HasTaken old mid text (text_of lines) → lines ≡ line ∷ rest → AppendsFront mid new line → AppendsFront old new text
unfolding text_of
front_taken {old} {mid} {new} {text} lines rest line h e w = grind (arith, append_assoc)
