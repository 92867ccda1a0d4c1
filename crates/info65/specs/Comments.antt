-- The comment that a group gives its name.
use Rattle.std.specs.Prelude.{◌&&◌, ◌∷◌, ℕ, Bool, not, List, Option, Some, None, is_some}
use Rattle.info65.specs.Groups.{AssignmentView, has, value_in}
use Rattle.info65.specs.Values.{as_comment}
use Rattle.info65.specs.declared.syntax.attribute.Attribute.TheVariants as attribute

-- an empty comment counts as none
abbrev pub unless_empty : Option (List ℕ) → Option (List ℕ)
unless_empty (Some (b ∷ bs)) = Some (b ∷ bs)
unless_empty _ = None

-- the comment that is given
unfoldable pub comment_in : List AssignmentView → Option (List ℕ)
comment_in given = unless_empty (as_comment (value_in attribute.Comment given))

-- a comment is given, and no name for it
unfoldable pub lacks_name : List AssignmentView → Bool
lacks_name given = is_some (comment_in given) && not (has attribute.Name given)
