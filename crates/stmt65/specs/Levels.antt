-- What stands after a statement that has bytes, by the comment level: from level 2 on its address, from level 3 on its
-- bytes in hex digits too, and at level 4 its bytes as characters.
use Rattle.std.specs.Prelude.{if◌then◌else◌, ◌&&◌, ◌++◌, ◌∷◌, List, [], codes, map, nat_lt, ℕ}
use Rattle.std.specs.List.{flat_map}
use Rattle.stmt65.specs.Types.{Columns, digits4}
use Rattle.stmt65.specs.Digits.{digits2}
use Rattle.stmt65.specs.Statements.{Field, has_bytes}
use Rattle.stmt65.specs.Views.{StatementView, RemarksView}

-- `; ` and the address
abbrev pub address_text : ℕ → List ℕ
address_text address = codes "; " ++ digits4 address

-- each byte after a blank
abbrev pub spaced_byte : ℕ → List ℕ
spaced_byte b = codes " " ++ digits2 b

-- `; `, the address, and the bytes
abbrev pub address_and_bytes : ℕ → List ℕ → List ℕ
address_and_bytes address bytes = address_text address ++ flat_map spaced_byte bytes

-- $20 to $7E stand for themselves, every other byte is a dot
abbrev pub character : ℕ → ℕ
character b = if nat_lt 0x1F b && nat_lt b 0x7F then b else 0x2E

-- the fields of a level, with the address and the bytes of the statement
abbrev pub level_fields : Columns → ℕ → ℕ → List ℕ → List Field
level_fields c level address bytes =
    if nat_lt level 2 then []
    else (if nat_lt level 3 then (c.comment, address_text address) ∷ []
    else (if nat_lt level 4 then (c.comment, address_and_bytes address bytes) ∷ []
    else (c.comment, address_and_bytes address bytes) ∷ (c.text, map character bytes) ∷ []))

-- The fields after a statement.
abbrev pub fields_after : Columns → StatementView → RemarksView → List Field
fields_after c s r = if has_bytes s then level_fields c r.level r.address r.bytes else []
