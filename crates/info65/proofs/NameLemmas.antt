-- File names are ASCII, so they are text.
use Rattle.std.proofs.Common.{◌≡◌, ◌<◌, ◌&&◌, ℕ, true, List, [], ◌∷◌, All, arith}
use Rattle.std.proofs.lemmas.List.Elements.{All-cons, All-nil}
use Rattle.std.specs.Str.{IsUtf8}
use Rattle.std.specs.Prelude.{nat_le}
use Rattle.std.proofs.lemmas.Bool.Decides.{nat_tests}
use Rattle.std.proofs.lemmas.Str.{IsUtf8-from_ascii}
use Rattle.std.proofs.lemmas.Str.Ascii.{IsAscii-from_all}
use Rattle.std.proofs.lemmas.Bool.{and_parts}
use Rattle.info65.specs.Words.{are_printable, is_file_name}

printable-ascii : (text : List ℕ) → are_printable text ≡ true → All (λ b. b < 128) text
printable-ascii [] h = All-nil (λ b. b < 128)
printable-ascii (b ∷ bs) h =
    let p = and_parts (nat_le 0x20 b && nat_le b 0x7E) (are_printable bs) h in
    let q = and_parts (nat_le 0x20 b) (nat_le b 0x7E) p.0 in
    All-cons (λ b. b < 128) b bs (grind (arith, nat_tests, q.1)) (printable-ascii bs p.1)

pub file_name-utf8 : (text : List ℕ) → is_file_name text ≡ true → IsUtf8 text
unfolding is_file_name
file_name-utf8 text h = IsUtf8-from_ascii text (IsAscii-from_all text (printable-ascii text (and_parts _ _ (and_parts _ _ h).1).1))
