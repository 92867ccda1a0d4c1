-- The links within a page.
use Rattle.std.specs.Prelude.{◌++◌, map, true, IsTrue, ◌≡◌, ℕ, Bool, cond, ◌&&◌, ◌+◌, ◌*◌, ◌%◌, List, [], ◌∷◌, Option, option_to_list, None, Some, codes, drop, fold, get_or, length, nat_eq, nat_le, take, set, ◌==◌, if◌then◌else◌}
use Rattle.std.specs.Char.{digit_value, is_ascii_hexdigit}
use Rattle.std.specs.List.{filter_map, list_all, prefix_len, starts_with}
use Rattle.std.specs.Str.{bytes_eq}
use Rattle.std.specs.Borrow.{Bor}
use Rattle.html65.specs.Pieces.{Piece, Tag, Text, is_other, pieces}

-- the bytes before the next `"`
abbrev pub before_quote : List ℕ → List ℕ
before_quote bytes = take (prefix_len (is_other 34) bytes) bytes

-- what stands in a tag between these bytes and the next `"`
unfoldable pub quoted_after : List ℕ → List ℕ → Option (List ℕ)
quoted_after key [] = None
quoted_after key (b ∷ bs) =
    if starts_with nat_eq (b ∷ bs) key then Some (before_quote (drop (length key) (b ∷ bs))) else quoted_after key bs

-- the same in a piece, if it is a tag
abbrev pub found_in : List ℕ → Piece → Option (List ℕ)
found_in key (Tag tag) = quoted_after key tag
found_in key (Text text) = None

-- all ids of elements that these pieces begin
abbrev pub ids_in : List Piece → List (List ℕ)
ids_in pieces = filter_map (found_in (codes " id=\"")) pieces

-- all ids that these pieces link to
abbrev pub targets_in : List Piece → List (List ℕ)
targets_in pieces = filter_map (found_in (codes " href=\"#")) pieces

-- how many of the ids are this one
unfoldable pub count_in : List ℕ → List (List ℕ) → ℕ
count_in id [] = 0
count_in id (x ∷ xs) = cond (bytes_eq id x) 1 0 + count_in id xs

-- one of the ids, and no more, is this one
abbrev pub is_found : List (List ℕ) → List ℕ → Bool
is_found ids id = count_in id ids == 1

-- each link within a page leads to the id of exactly one element
abbrev pub AreLinksWhole : List ℕ → Type 0
AreLinksWhole page = IsTrue (list_all (is_found (ids_in (pieces page))) (targets_in (pieces page)))

-- the kind of an id, by its first byte: `l` of a name, `a` of a line and `r` of a row have different ones
abbrev pub kind_of : List ℕ → ℕ
kind_of id = get_or id 0 0 % 4

-- numbers after an `l` are decimal, and addresses hexadecimal
abbrev pub radix_of : List ℕ → ℕ
radix_of id = if kind_of id == 0 then 10 else 16

-- the number after a byte of an id
abbrev pub with_digit : ℕ → ℕ → ℕ → ℕ
with_digit radix n b = if is_ascii_hexdigit b then (n * radix % 4294967296 + digit_value b) % 4294967296 else n

-- the number that the digits of an id after its first byte make
unfoldable pub number_in : List ℕ → ℕ
number_in id = fold (with_digit (radix_of id)) 0 (drop 1 id)

-- the numbers of the ids of each kind ascend, from the least one that the kind may have next
unfoldable pub are_ascending : List ℕ → List (List ℕ) → Bool
are_ascending least [] = true
are_ascending least (id ∷ ids) = nat_le (get_or least (kind_of id) 0) (number_in id) && are_ascending (set least (kind_of id) (number_in id + 1)) ids

-- what stands there, of each
abbrev pub texts : List (Bor (List ℕ)) → List (List ℕ)
texts found = map (λ k. k.now) found

-- what stands there after an id, if there is one, was added
abbrev pub Adds : List (Bor (List ℕ)) → List (Bor (List ℕ)) → Option (List ℕ) → Type 0
Adds old new id = texts new ≡ texts old ++ option_to_list id
