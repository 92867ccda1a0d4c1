-- What an information file is, by its tokens: groups, and what must hold of them.
use Rattle.std.specs.Prelude.{◌≡◌, ◌≤◌, ℕ, Bool, true, false, List, [], ◌∷◌, ◌++◌, Some, None, Ok, IsOk, length}
use Rattle.std.specs.List.{flat_map}
use Rattle.info65.specs.Attributes.{attribute_named, group_named}
use Rattle.info65.specs.Closing.{closing_fault}
use Rattle.info65.specs.Groups.{AssignmentView, GroupView, is_given}
use Rattle.info65.specs.IncludeGroups.{has_room}
use Rattle.info65.specs.Lexemes.{KindView, word, opening_brace, closing_brace, semicolon}
use Rattle.info65.specs.Settings.{info_of}
use Rattle.info65.specs.Tokens.{TokenView, tokens_of}
use Rattle.info65.specs.Values.{ValueView, value_of}
use Rattle.info65.specs.Views.{InfoView, OptionsView}
use Rattle.info65.specs.Types.{Attribute, GroupKind}

-- what each token has to be: the name of a group, the name of an attribute of a group, a value that the
-- attribute can have, or a mark
pub data Item : Type 0 where
  group_name : GroupKind → Item
  attribute_name : GroupKind → Attribute → Item
  value : Attribute → ValueView → Item
  mark : KindView → Item

abbrev pub IsToken : OptionsView → Item → TokenView → Type 0
IsToken o (group_name k) t = (t.kind ≡ word) × (group_named t.text ≡ Some k)
IsToken o (attribute_name k a) t = (t.kind ≡ word) × (attribute_named k t.text ≡ Some a)
IsToken o (value a v) t = value_of o a t ≡ Ok v
IsToken o (mark kind) t = t.kind ≡ kind

-- each token is the item that is due
abbrev pub Spells : OptionsView → List Item → List TokenView → Type 0
Spells o [] [] = Unit {0}
Spells o [] (t ∷ ts) = ⊥
Spells o (i ∷ is) [] = ⊥
Spells o (i ∷ is) (t ∷ ts) = IsToken o i t × Spells o is ts

-- ATTRIBUTE value ;
abbrev pub given_items : GroupKind → AssignmentView → List Item
given_items k g = attribute_name k g.attribute ∷ value g.attribute g.value ∷ mark semicolon ∷ []

-- a closing brace, and perhaps a `;`
abbrev pub end_items : Bool → List Item
end_items true = mark closing_brace ∷ mark semicolon ∷ []
end_items false = mark closing_brace ∷ []

-- NAME { ATTRIBUTE value ; .. }, and whether a `;` follows it
abbrev pub group_items : GroupView × Bool → List Item
group_items g = group_name g.0.kind ∷ mark opening_brace ∷ (flat_map (given_items g.0.kind) g.0.given ++ end_items g.1)

-- none of these attributes was given before it, and there is room for each
abbrev pub AreNew : List GroupView → GroupKind → List AssignmentView → List AssignmentView → Type 0
AreNew before k given [] = Unit {0}
AreNew before k given (x ∷ xs) =
    (is_given before k given x.attribute ≡ false) × (has_room before x.attribute ≡ true) × AreNew before k (given ++ x ∷ []) xs

-- a group that may stand after those before it
pub record IsGroup (before : List GroupView) (g : GroupView) : Type 0 where
  pub new : AreNew before g.kind [] g.given
  pub closes : closing_fault before g.kind g.given ≡ None

abbrev pub AreGroups : List GroupView → List GroupView → Type 0
AreGroups before [] = Unit {0}
AreGroups before (g ∷ gs) = IsGroup before g × AreGroups (before ++ g ∷ []) gs

abbrev pub without_marks : List (GroupView × Bool) → List GroupView
without_marks [] = []
without_marks (g ∷ gs) = g.0 ∷ without_marks gs

-- the whole token list is these groups, and they keep every condition
pub record Accepts (o : OptionsView) (ts : List TokenView) (groups : List GroupView) : Type 0 where
  pub spelling : List (GroupView × Bool)
  pub of : without_marks spelling ≡ groups
  pub spelled : Spells o (flat_map group_items spelling) ts
  pub keeps : AreGroups [] groups

-- A text is an information file that says this: it is not too large, no token of it has a fault, and its
-- tokens are groups that keep every condition and say this.
pub record IsInformation (o : OptionsView) (bytes : List ℕ) (info : InfoView) : Type 0 where
  pub small : length bytes ≤ 1_048_576
  pub whole : IsOk (tokens_of 1 bytes).ending
  pub groups : List GroupView
  pub accepts : Accepts o (tokens_of 1 bytes).tokens groups
  pub says : info ≡ info_of o groups
