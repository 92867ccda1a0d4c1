-- Pieces of the code as those of the definitions.
use Rattle.std.specs.Prelude.{◌≡◌, ◌<◌, ◌∷◌, ℕ, IsTrue, List, length}
use Rattle.std.specs.Borrow.{Bor}
use Rattle.std.specs.List.{list_all}
use Rattle.html65.specs.Links.{is_found, texts}
use Rattle.html65.specs.Pieces.{pieces, Piece, Tag, Text}
use Rattle.html65.specs.declared.pieces.Piece.{Piece as Found}
use Rattle.html65.specs.declared.pieces.Piece.TheVariants as found

abbrev pub piece_of : Found → Piece
piece_of (found.Tag tag) = Tag tag.now
piece_of (found.Text text) = Text text.now

-- the first piece of a page, and the bytes after it, which are fewer
abbrev pub BeginsWith : List ℕ → Found → List ℕ → Type 0
BeginsWith page piece rest = (pieces page ≡ piece_of piece ∷ pieces rest) × (length rest < length page)

-- each target is one of the ids
abbrev pub AreAllFound : List (Bor (List ℕ)) → List (Bor (List ℕ)) → Type 0
AreAllFound ids targets = IsTrue (list_all (is_found (texts ids)) (texts targets))
