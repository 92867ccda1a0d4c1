-- Include files: what a group ASMINC says, how many of them there can be, and what holds of all of them.
use Rattle.std.specs.Prelude.{◌≡◌, ◌≤◌, ℕ, Bool, true, false, List, [], ◌∷◌, Option, Some, None, Result, Ok, Err, All, length, nat_lt}
use Rattle.std.specs.List.{flat_map}
use Rattle.std.specs.Option.{unwrap_or}
use Rattle.info65.specs.Groups.{AssignmentView, GroupView, value_in}
use Rattle.info65.specs.Values.{as_boolean, as_character, as_name, is_file_name}
use Rattle.info65.specs.Views.{IncludeView}
use Rattle.info65.specs.Types.{Attribute, GroupKind, InfoFaultKind, Missing}
use Rattle.info65.specs.declared.syntax.attribute.Attribute.TheVariants as attribute
use Rattle.info65.specs.declared.syntax.attribute.GroupKind.TheVariants as group

-- FILE is needed; without COMMENTSTART a comment begins with `;` (59), and IGNOREUNKNOWN is off by default
abbrev pub include_from : Option (List ℕ) → Option ℕ → Option Bool → Result IncludeView InfoFaultKind
include_from (Some file) start ignore = Ok (record { file = file; comment_start = unwrap_or start 59; ignore_unknown = unwrap_or ignore false })
include_from None start ignore = Err Missing

-- the include file that a group ASMINC says by what is given in it, or the fault that it has by itself
unfoldable pub include_in : List AssignmentView → Result IncludeView InfoFaultKind
include_in given =
    include_from (as_name (value_in attribute.File given)) (as_character (value_in attribute.CommentStart given))
    (as_boolean (value_in attribute.IgnoreUnknown given))

abbrev pub include_part : GroupView → List IncludeView
include_part g = if_include g.kind (include_in g.given)
  where
    if_include : GroupKind → Result IncludeView InfoFaultKind → List IncludeView
    if_include group.Include (Ok i) = i ∷ []
    if_include _ _ = []

-- the include files of the groups ASMINC, in the order of the groups
unfoldable pub includes_of : List GroupView → List IncludeView
includes_of groups = flat_map include_part groups

-- one more value of this attribute can be given: after these groups there can be another FILE only if they
-- say fewer than 16
unfoldable pub has_room : List GroupView → Attribute → Bool
has_room before attribute.File = nat_lt (length (includes_of before)) 16
has_room before _ = true

-- include files as an information file can give them: at most 16, and their names are file names
pub record AreIncludes (includes : List IncludeView) : Type 0 where
  pub few : length includes ≤ 16
  pub each : All (λ i. is_file_name i.file ≡ true) includes
