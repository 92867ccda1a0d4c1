-- Where labels leave the address in their name.
use Rattle.std.specs.Prelude.{◌≡◌, ◌==◌, ◌&&◌, ℕ, Bool, true, false, ◌+◌, ◌-◌, ◌*◌, List, [], ◌∷◌, ◌++◌, Option, Some, None, codes, decimal, length, nat_le, nat_lt, option_to_list, slice_index, if◌then◌else◌}
use Rattle.std.specs.String.{string_bytes}
use Rattle.text65.specs.Digits.{digits4}
use Rattle.stmt65.specs.Words.{PlaceAssignment, SourceLine, Statement, held, source_addresses, source_readings}
use Rattle.as65.specs.Types.{Failure, Label, Memory, Moved, Own, Refused, Source}

-- a hex digit as da65 writes it
abbrev pub digit : ℕ → Option ℕ
digit b = if nat_le 48 b && nat_le b 57 then Some (b - 48) else (if nat_le 65 b && nat_le b 70 then Some (b - 55) else None)

abbrev pub number4 : Option ℕ → Option ℕ → Option ℕ → Option ℕ → Option ℕ
number4 (Some a) (Some b) (Some c) (Some d) = Some (a * 4096 + b * 256 + c * 16 + d)
number4 _ _ _ _ = None

-- the address in a name of the form LXXXX
unfoldable pub address_in_name : List ℕ → Option ℕ
address_in_name name =
    if length name == 5 && slice_index name 0 == 76
    then number4 (digit (slice_index name 1)) (digit (slice_index name 2)) (digit (slice_index name 3)) (digit (slice_index name 4))
    else None

-- of a name with this address, at a line
abbrev pub label_named : ℕ → ℕ → Option ℕ → Option Label
label_named number at None = None
label_named number at (Some named) = Some (record { number = number; named = named; at = at })

-- The label of a line at `at`, if it has a name of that form; and, with `inner`, the name of an address inside what
-- follows, as in `L1005 := * + 1`. There 2^64 - 1 stands for every greater address.
unfoldable pub label_in_line : Bool → ℕ → ℕ → Option SourceLine → Option Label
label_in_line inner number at (Some (Statement (Some name) operation)) = label_named number at (address_in_name name)
label_in_line true number at (Some (PlaceAssignment name plus)) = label_named number (held (at + plus)) (address_in_name name)
label_in_line inner number at _ = None

-- those of lines of which the first has this number and address; the address after a line is that of the next
unfoldable pub labels_in : Bool → ℕ → ℕ → List (Option SourceLine) → List ℕ → List Label
labels_in inner number at [] ends = []
labels_in inner number at (l ∷ ls) [] = []
labels_in inner number at (l ∷ ls) (e ∷ ends) = option_to_list (label_in_line inner number at l) ++ labels_in inner (number + 1) e ls ends

-- the labels of a source, in their order
abbrev pub labels_of : {L : Type 0} → Source L → List Label
labels_of s = labels_in false 1 s.start (source_readings s) (source_addresses s)

-- the same with names inside instructions
abbrev pub places_of : {L : Type 0} → Source L → List Label
places_of s = labels_in true 1 s.start (source_readings s) (source_addresses s)

-- whether two labels lie equally far from the address in their names, on the same side
abbrev pub is_alike : Label → Label → Bool
is_alike l m = l.at + m.named == m.at + l.named

-- what the first label is compared with: it is where its name says
abbrev pub in_place : Label
in_place = record { number = 0; named = 0; at = 0 }

-- the labels at which the distance changes, after one with this distance
unfoldable pub moves_after : Label → List Label → List Label
moves_after last [] = []
moves_after last (l ∷ ls) = if is_alike last l then moves_after last ls else l ∷ moves_after l ls

-- the same of all labels: none exactly if each label is at the address in its name
abbrev pub moves_in : List Label → List Label
moves_in labels = moves_after in_place labels

-- ---- what is said

-- `1 byte`, `2 bytes`
abbrev pub bytes_text : ℕ → List ℕ
bytes_text n = decimal n ++ (if n == 1 then codes " byte" else codes " bytes")

-- how far something lies from the address in its name
unfoldable pub distance_text : ℕ → ℕ → List ℕ
distance_text named at =
    if named == at then codes "at their addresses again"
    else (if nat_lt named at then bytes_text (at - named) ++ codes " later" else bytes_text (named - at) ++ codes " earlier")

-- `LFC86 and what follows lie `
unfoldable pub what_lies : ℕ → List ℕ
what_lies named = codes "L" ++ digits4 named ++ codes " and what follows lie "

-- `LFC86 and what follows lie 2 bytes later`
unfoldable pub move_text : Label → List ℕ
move_text l = what_lies l.named ++ distance_text l.named l.at

-- `line 90: LFC86 and what follows lie 2 bytes later`
unfoldable pub move_line : Label → List ℕ
move_line l = codes "line " ++ decimal l.number ++ codes ": " ++ move_text l ++ codes "\n"

-- the failure has the first of these labels, in a listing of this name, unless memory ran out
abbrev pub IsMoved : List ℕ → List Label → Failure Refused → Type 0
IsMoved name moves Memory = Unit {0}
IsMoved name (l ∷ later) (Own (Moved listing number said)) = (string_bytes listing ≡ name) × (number ≡ l.number) × (said.items ≡ move_text l)
IsMoved name moves _ = ⊥
