-- Laws of given names.
use Rattle.std.specs.Prelude.{◌≡◌, ◌↔◌, ◌<◌, ◌≤◌, ℕ, true, false, List, Some, None, length}
use Rattle.std.specs.List.{Contains}
use Rattle.info65.specs.Grammar.{IsInformation}
use Rattle.info65.specs.Labels.{names_said}
use Rattle.info65.specs.Names.{AreNames, covering, covers, name_at}
use Rattle.info65.specs.Views.{InfoView, NameView, OptionsView}

-- a name that covers the address, and none with a higher address of its own does
pub record IsHighest (names : List NameView) (a : ℕ) (n : NameView) : Type 0 where
  pub index : ℕ
  pub low : index < length names
  pub is : n ≡ name_at names index
  pub covers_it : covers n a ≡ true
  pub highest : (i : ℕ) → i < length names → covers (name_at names i) a ≡ true → (name_at names i).address ≤ n.address

-- The name of an address is, of the names that cover it, the one with the highest address of its own; where
-- there is none, no name covers the address.
pub record IsCovering (names : List NameView) : Type 0 where
  pub some : (a : ℕ) (n : NameView) → covering names a ≡ Some n → IsHighest names a n
  pub none : (a : ℕ) → covering names a ≡ None → (i : ℕ) → i < length names → covers (name_at names i) a ≡ false

abbrev pub CoversHighest : Type 0
CoversHighest = (names : List NameView) → AreNames names → IsCovering names

-- An address that is a name's own has that name.
abbrev pub OwnAddressWins : Type 0
OwnAddressWins =
    (names : List NameView) → AreNames names → (i : ℕ) → i < length names → covering names (name_at names i).address ≡ Some (name_at names i)

-- The names of an information file are exactly those that its groups LABEL and RANGE say. They ascend by
-- address, no two have one text, and none is reserved or extends past $FFFF.
abbrev pub NamesGiven : Type 0
NamesGiven =
    (o : OptionsView) (bytes : List ℕ) (info : InfoView) (i : IsInformation o bytes info)
    → AreNames info.names × ((n : NameView) → Contains info.names n ↔ Contains (names_said i.groups) n)
