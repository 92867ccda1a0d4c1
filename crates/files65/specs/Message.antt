-- A message on standard error.
use Rattle.std.specs.Prelude.{◌==◌, ◌&&◌, ◌||◌, ℕ, Bool, false, List, [], ◌∷◌, ◌++◌, codes, nat_le, if◌then◌else◌}
use Rattle.std.specs.Char.{is_ascii_control}

-- a control byte of a terminal: below a blank or $7F; or $80 to $9F after $C2,
-- which in UTF-8 are the controls of 8 bits
abbrev pub is_control : Bool → ℕ → Bool
is_control after_c2 b = is_ascii_control b || after_c2 && nat_le 128 b && nat_le b 159

-- a line feed is shown as `\n`, any other control byte as `?`
abbrev pub in_line : Bool → ℕ → List ℕ
in_line after_c2 b = if b == 10 then 92 ∷ 110 ∷ [] else (if is_control after_c2 b then 63 else b) ∷ []

-- the same of bytes; first whether they begin after $C2
unfoldable pub shown_from : Bool → List ℕ → List ℕ
shown_from after_c2 [] = []
shown_from after_c2 (b ∷ bs) = in_line after_c2 b ++ shown_from (b == 194) bs

abbrev pub shown : List ℕ → List ℕ
shown bytes = shown_from false bytes

-- the program's name, a text, what is said after it, and a line feed: one line, whatever they have
unfoldable pub message : List ℕ → List ℕ → List ℕ → List ℕ
message program text about = program ++ codes ": " ++ shown text ++ shown about ++ codes "\n"
