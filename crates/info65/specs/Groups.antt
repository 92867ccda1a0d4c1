-- Groups, and what is given in them.
use Rattle.std.specs.Prelude.{◌||◌, Bool, false, List, [], Option, option_map}
use Rattle.std.specs.List.{AllByRecursion, find, flat_map, list_any}
use denote.Enum.Bare.{sameb}
use Rattle.info65.specs.contracts.syntax.attribute.Attribute as attribute_type
use Rattle.info65.specs.Attributes.{form_of}
use Rattle.info65.specs.Values.{HasForm, ValueView}
use Rattle.info65.specs.Types.{Attribute, GroupKind}
use Rattle.info65.specs.declared.syntax.attribute.Attribute.TheVariants as attribute
use Rattle.info65.specs.declared.syntax.attribute.GroupKind.TheVariants as group

-- an attribute and its value
pub record AssignmentView : Type 0 where
  pub attribute : Attribute
  pub value : ValueView

-- a group, and what is given in it
pub record GroupView : Type 0 where
  pub kind : GroupKind
  pub given : List AssignmentView

abbrev pub is_of : Attribute → AssignmentView → Bool
is_of a g = sameb attribute_type.the_type a g.attribute

-- the attribute is given
unfoldable pub has : Attribute → List AssignmentView → Bool
has a given = list_any (is_of a) given

-- the value that the attribute is given
unfoldable pub value_in : Attribute → List AssignmentView → Option ValueView
value_in a given = option_map (λ g. g.value) (find (is_of a) given)

abbrev pub global_part : GroupView → List AssignmentView
global_part g = if_global g.kind g.given
  where
    if_global : GroupKind → List AssignmentView → List AssignmentView
    if_global group.Global given = given
    if_global _ given = []

-- what all groups GLOBAL give: they count as one
unfoldable pub global_given : List GroupView → List AssignmentView
global_given groups = flat_map global_part groups

-- what counts as given in the same group, where a group of this kind follows these
abbrev pub given_before : List GroupView → GroupKind → List AssignmentView
given_before before group.Global = global_given before
given_before before _ = []

-- END and SIZE say the same in two ways: the other of the two is given
unfoldable pub has_instead : Attribute → List AssignmentView → Bool
has_instead attribute.End given = has attribute.Size given
has_instead attribute.Size given = has attribute.End given
has_instead _ given = false

-- the attribute was given before in its group; END and SIZE count as one
unfoldable pub is_given : List GroupView → GroupKind → List AssignmentView → Attribute → Bool
is_given before k given a = has a (given_before before k) || (has a given || has_instead a given)

-- each value has the form of its attribute
abbrev pub AreFormed : List AssignmentView → Type 0
AreFormed given = AllByRecursion (λ g. HasForm (form_of g.attribute) g.value) given

abbrev pub AreAllFormed : List GroupView → Type 0
AreAllFormed groups = AllByRecursion (λ g. AreFormed g.given) groups
