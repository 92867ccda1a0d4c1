-- The pieces of a page: its tags, and the text between them.
--
-- A tag is what stands from a `<` to the next `>`, and text is all else. In text `&amp;`, `&lt;`
-- and `&gt;` stand for `&`, `<` and `>`, `&#13;` for a CR and `&#0;` for a NUL.
use Rattle.std.specs.Prelude.{ℕ, zero, suc, ◌-◌, ◌+◌, Bool, ◌||◌, not, List, [], ◌∷◌, codes, nat_eq, take, ◌==◌, if◌then◌else◌}
use Rattle.std.specs.List.{prefix_len, starts_with}

-- a tag without its angle brackets, or bytes of the text
pub data Piece : Type 0 where
  Tag : List ℕ → Piece
  Text : List ℕ → Piece

-- any byte but this one
abbrev pub is_other : ℕ → ℕ → Bool
is_other byte b = not (b == byte)

-- any byte but these two
abbrev pub is_neither : ℕ → ℕ → ℕ → Bool
is_neither one other b = not (b == one || b == other)

-- any byte but `<` and `&`
abbrev pub is_text : ℕ → Bool
is_text b = not (b == 60 || b == 38)

-- what an entity stands for, and its length; else it is the `&` alone
unfoldable pub entity_at : List ℕ → List ℕ × ℕ
entity_at bytes =
    if starts_with nat_eq bytes (codes "&amp;") then (38 ∷ [], 5)
    else (if starts_with nat_eq bytes (codes "&lt;") then (60 ∷ [], 4)
    else (if starts_with nat_eq bytes (codes "&gt;") then (62 ∷ [], 4)
    else (if starts_with nat_eq bytes (codes "&#13;") then (13 ∷ [], 5)
    else (if starts_with nat_eq bytes (codes "&#0;") then (0 ∷ [], 4)
    else (38 ∷ [], 1)))))

-- the piece that begins with the first byte, and its length
unfoldable pub piece_at : ℕ → List ℕ → Piece × ℕ
piece_at b bs =
    if b == 60 then (Tag (take (prefix_len (is_other 62) bs) bs), prefix_len (is_other 62) bs + 2)
    else (if b == 38 then (Text (entity_at (b ∷ bs)).0, (entity_at (b ∷ bs)).1)
    else (Text (take (prefix_len is_text (b ∷ bs)) (b ∷ bs)), prefix_len is_text (b ∷ bs)))

-- the pieces after this many bytes of the one before
unfoldable pub pieces_after : ℕ → List ℕ → List Piece
pieces_after skip [] = []
pieces_after (suc skip) (b ∷ bs) = pieces_after skip bs
pieces_after zero (b ∷ bs) = (piece_at b bs).0 ∷ pieces_after ((piece_at b bs).1 - 1) bs

-- the pieces of a page
abbrev pub pieces : List ℕ → List Piece
pieces page = pieces_after 0 page
