-- The text of a page: that of the listing in it.
--
-- The listing stands in `<pre id="listing">`. What the page adds to it stands in elements `<i>`.
use Rattle.std.specs.Prelude.{ℕ, List, [], ◌∷◌, ◌++◌, ◌||◌, codes, nat_eq, if◌then◌else◌}
use Rattle.std.specs.List.{starts_with}
use Rattle.std.specs.Str.{bytes_eq}
use Rattle.html65.specs.Pieces.{Piece, Tag, Text, pieces}
use Rattle.html65.specs.declared.faults.Region.{Region}
use Rattle.html65.specs.declared.faults.Region.TheVariants.{After, Before, Listing, Remark}

-- where the text after a tag stands: before the listing, in it, in a remark of the page, or after it
abbrev pub after_tag : Region → List ℕ → Region
after_tag Before tag = if bytes_eq tag (codes "pre id=\"listing\"") then Listing else Before
after_tag Listing tag = if bytes_eq tag (codes "i") || starts_with nat_eq tag (codes "i ") then Remark else (if bytes_eq tag (codes "/pre") then After else Listing)
after_tag Remark tag = if bytes_eq tag (codes "/i") then Listing else Remark
after_tag After tag = After

-- what of a text is the listing's
abbrev pub kept : Region → List ℕ → List ℕ
kept Listing text = text
kept place text = []

-- the text of the listing in these pieces
unfoldable pub text_from : Region → List Piece → List ℕ
text_from place [] = []
text_from place (Tag tag ∷ rest) = text_from (after_tag place tag) rest
text_from place (Text text ∷ rest) = kept place text ++ text_from place rest

-- the text of the listing in a page
abbrev pub text_of : List ℕ → List ℕ
text_of page = text_from Before (pieces page)
