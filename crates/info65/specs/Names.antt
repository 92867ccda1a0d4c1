-- Names of addresses: which of them are reserved, which addresses a name is for, and what holds of all
-- names of an information file.
--
-- Of the names that cover an address the one with the highest address of its own is the name of that address.
use Rattle.std.specs.Prelude.{◌≡◌, ◌≢◌, ◌==◌, ◌+◌, ◌<◌, ◌≤◌, ◌&&◌, ◌||◌, ℕ, zero, suc, Bool, true, false, not, List, [], ◌∷◌, Option, Some, None, All, AllPairs, IfSome, drop, get_or, length, nat_le, nat_lt, slice_index, if◌then◌else◌}
use Rattle.std.specs.List.{list_all}
use Rattle.std.specs.Str.{bytes_eq}
use Rattle.text65.specs.Digits.{digits4}
use Rattle.text65.specs.Names.{has_name_form, is_reserved_word}
use Rattle.info65.specs.Views.{NameView}

-- ---- the text of a name

-- the default name of an address: `L` and four hex digits
unfoldable pub default_name : ℕ → List ℕ
default_name a = 76 ∷ digits4 a

-- the name that the default name of an address is as a label
abbrev pub default_label : ℕ → NameView
default_label a = record { address = a; size = 1; text = default_name a; comment = None }

-- 0 to 9 or A to F
abbrev pub is_upper_hex : ℕ → Bool
is_upper_hex b = (nat_le 48 b && nat_le b 57) || (nat_le 65 b && nat_le b 70)

-- the form of a default name
unfoldable pub is_like_default : List ℕ → Bool
is_like_default text = length text == 5 && (slice_index text 0 == 76 && list_all is_upper_hex (drop 1 text))

-- A name that this address can't have: a register or a mnemonic, in any case, or the default name of
-- another address.
unfoldable pub is_reserved : ℕ → List ℕ → Bool
is_reserved address text =
    is_reserved_word text || (is_like_default text && not (bytes_eq text (default_name address)))

-- TAB, $20 to $7E, or $80 to $FF
abbrev pub is_comment_byte : ℕ → Bool
is_comment_byte b = b == 9 || ((nat_le 0x20 b && nat_le b 0x7E) || nat_le 0x80 b)

-- at most 200 such bytes
unfoldable pub has_comment_form : List ℕ → Bool
has_comment_form text = nat_le (length text) 200 && list_all is_comment_byte text

-- a comment as a name has it: not empty
pub record IsComment (text : List ℕ) : Type 0 where
  pub some : 1 ≤ length text
  pub form : has_comment_form text ≡ true

-- ---- the addresses of a name

-- the address is one of those that the name is for: as many as its size, from its own on
abbrev pub covers : NameView → ℕ → Bool
covers n a = nat_le n.address a && nat_lt a (n.address + n.size)

abbrev pub blank_name : NameView
blank_name = record { address = 0; size = 0; text = []; comment = None }

abbrev pub name_at : List NameView → ℕ → NameView
name_at names i = get_or names i blank_name

-- the last of the first i names that covers the address
unfoldable pub covering_below : List NameView → ℕ → ℕ → Option NameView
covering_below names zero a = None
covering_below names (suc i) a =
    if covers (name_at names i) a then Some (name_at names i) else covering_below names i a

-- the last name that covers the address; where the names ascend it is the one whose own address is highest
unfoldable pub covering : List NameView → ℕ → Option NameView
covering names a = covering_below names (length names) a

-- ---- the names of an information file

-- a name as a file can give it: its addresses end at or below $FFFF, and it is not reserved
pub record IsName (n : NameView) : Type 0 where
  pub sized : 1 ≤ n.size
  pub room : n.address + n.size ≤ 0x1_0000
  pub form : has_name_form n.text ≡ true
  pub free : is_reserved n.address n.text ≡ false
  pub comment : IfSome n.comment IsComment

-- the names of a file: ascending by address, and no two have one text
pub record AreNames (names : List NameView) : Type 0 where
  pub each : All IsName names
  pub rising : AllPairs (λ n m. n.address < m.address) names
  pub distinct : AllPairs (λ n m. n.text ≢ m.text) names

-- names as a file gives them, in any order: no two have one text or one address
pub record AreGiven (names : List NameView) : Type 0 where
  pub each : All IsName names
  pub texts : AllPairs (λ n m. n.text ≢ m.text) names
  pub addresses : AllPairs (λ n m. n.address ≢ m.address) names
