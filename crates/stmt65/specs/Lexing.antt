-- The parts of a line, as the lexer takes them: from the left, each as long as it can be.
--
-- Words and numbers as they are written, the bytes between the quotes of a string, `:=`, and any other byte by itself.
-- In a repair `%` and binary digits are a number too, and so is a character between apostrophes. Blanks are no parts,
-- and a `;` outside a string ends the line.
use Rattle.stmt65.specs.Signs.{quote, dollar, percent, apostrophe, dot, colon, semicolon, equals, underscore}
use Rattle.std.specs.Prelude.{if◌then◌else◌, ◌&&◌, ◌+◌, ◌==◌, ◌||◌, ◌∷◌, Bool, List, [], drop, false, min, nat_lt, not, suc, take, zero, ℕ}
use Rattle.std.specs.Char.{is_ascii_alphabetic, is_ascii_digit, is_ascii_hexdigit}
use Rattle.std.specs.List.{prefix_len}
use Rattle.stmt65.specs.Types.{Language, Listing, Repair, is_blank, is_word_byte}
use Rattle.stmt65.specs.Parts.{Part, Word, Number, Text, Define, Mark, begins_with}

-- a letter, `_` or `.`
abbrev pub is_word_start : ℕ → Bool
is_word_start b = is_ascii_alphabetic b || b == underscore || b == dot

-- $20 to $7E without `"`
abbrev pub is_text_byte : ℕ → Bool
is_text_byte b = nat_lt 0x1F b && nat_lt b 0x7F && not (b == quote)

-- how many hex digits a `$` takes: eight at most
abbrev pub hex_len : List ℕ → ℕ
hex_len bs = min 8 (prefix_len is_ascii_hexdigit bs)

abbrev pub is_binary_digit : ℕ → Bool
is_binary_digit b = b == 48 || b == 49

-- a byte from $20 to $7E, and an apostrophe after it
abbrev pub is_character : List ℕ → Bool
is_character (c ∷ end ∷ bs) = nat_lt 0x1F c && (nat_lt c 0x7F && (end == apostrophe))
is_character _ = false

-- in a repair, a binary number after `%`, and a character after an apostrophe; else the byte b by itself
abbrev pub alone_at : Language → ℕ → List ℕ → Part × ℕ
alone_at Listing b bs = (Mark b, 0)
alone_at Repair b bs =
    if (b == percent) && nat_lt 0 (prefix_len is_binary_digit bs) then (Number (b ∷ take (prefix_len is_binary_digit bs) bs), prefix_len is_binary_digit bs)
    else (if (b == apostrophe) && is_character bs then (Number (b ∷ take 2 bs), 2)
    else (Mark b, 0))

-- the part that begins with the byte b, and how many of the bytes after b it takes
unfoldable pub part_at : Language → ℕ → List ℕ → Part × ℕ
part_at language b bs =
    if is_word_start b then (Word (b ∷ take (prefix_len is_word_byte bs) bs), prefix_len is_word_byte bs)
    else (if is_ascii_digit b then (Number (b ∷ take (prefix_len is_ascii_digit bs) bs), prefix_len is_ascii_digit bs)
    else (if (b == dollar) && nat_lt 0 (hex_len bs) then (Number (b ∷ take (hex_len bs) bs), hex_len bs)
    else (if (b == quote) && begins_with quote (drop (prefix_len is_text_byte bs) bs) then (Text (take (prefix_len is_text_byte bs) bs), prefix_len is_text_byte bs + 1)
    else (if (b == colon) && begins_with equals bs then (Define, 1)
    else alone_at language b bs))))

-- the parts after this many bytes that belong to the part before
unfoldable pub parts_after : Language → ℕ → List ℕ → List Part
parts_after language skip [] = []
parts_after language (suc skip) (b ∷ bs) = parts_after language skip bs
parts_after language zero (b ∷ bs) =
    if is_blank b then parts_after language 0 bs
    else (if b == semicolon then []
    else (part_at language b bs).0 ∷ parts_after language (part_at language b bs).1 bs)

-- the parts of a line; blanks are none, and a `;` outside a string ends the line
abbrev pub parts : Language → List ℕ → List Part
parts language line = parts_after language 0 line
