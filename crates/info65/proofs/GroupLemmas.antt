-- What the groups GLOBAL give, group by group.
use Rattle.std.proofs.Common.{◌≡◌, ◌∙◌, ◌+◌, ◌<◌, ◌≤◌, ℕ, List, [], ◌∷◌, ◌++◌, ap, drop, get_or, length, map, refl, sym}
use Rattle.std.specs.Prelude.{Option, Some, None, is_some, option_map}
use Rattle.std.specs.List.{find}
use Rattle.std.specs.Option.{option_or}
use Rattle.std.proofs.lemmas.List.{at_drop_all, at_drop_more, map-append}
use Rattle.std.proofs.lemmas.List.Folds.{find-append}
use Rattle.info65.specs.Words.{AssignmentView, Attribute, Group, GroupView, Value, assigned_seen, assignment_seen, global_given, global_part, group_seen, has, is_of, value_in, value_seen}
use Rattle.info65.specs.Types.{Assignment}
use Rattle.info65.proofs.Cases.{is_some_find, some_map}

-- what is given with one more
pub assigned_push : (given : List Assignment) (a : Assignment) → assigned_seen (given ++ a ∷ []) ≡ assigned_seen given ++ assignment_seen a ∷ []
assigned_push given a = map-append assignment_seen given (a ∷ [])

-- an attribute is given where it has a value
pub has_value : (a : Attribute) (given : List AssignmentView) (o : Option Value) → option_map value_seen o ≡ value_in a given → is_some o ≡ has a given
unfolding has value_in
has_value a given o is = sym (some_map value_seen o) ∙ ap is_some is ∙ some_map (λ g. g.value) (find (is_of a) given) ∙ sym (is_some_find (is_of a) given)

map_or : (x y : Option AssignmentView) → option_map (λ g. g.value) (option_or x y) ≡ option_or (option_map (λ g. g.value) x) (option_map (λ g. g.value) y)
map_or None y = refl
map_or (Some x) y = refl

value_next : (a : Attribute) (g : GroupView) (gs : List GroupView) → value_in a (global_given (g ∷ gs)) ≡ option_or (value_in a (global_part g)) (value_in a (global_given gs))
unfolding value_in global_given
value_next a g gs = ap (option_map (λ g. g.value)) (find-append (is_of a) (global_part g) (global_given gs)) ∙ map_or (find (is_of a) (global_part g)) (find (is_of a) (global_given gs))

-- the group at a place of the list is the next
pub value_more : {Z : Type 0} (a : Attribute) (gs : List (Group Z)) (i : ℕ) (x : Group Z) → i < length gs → x ≡ get_or gs i x
    → value_in a (global_given (map group_seen (drop i gs))) ≡ option_or (value_in a (global_part (group_seen x))) (value_in a (global_given (map group_seen (drop (i + 1) gs))))
value_more a gs i x here is =
    at_drop_more (λ l. value_in a (global_given (map group_seen l))) gs i x here
    ∙ ap (λ y. value_in a (global_given (group_seen y ∷ map group_seen (drop (i + 1) gs)))) (sym is)
    ∙ value_next a (group_seen x) (map group_seen (drop (i + 1) gs))

pub value_none : {Z : Type 0} (a : Attribute) (gs : List (Group Z)) (i : ℕ) → length gs ≤ i → value_in a (global_given (map group_seen (drop i gs))) ≡ None
unfolding value_in global_given
value_none a gs i past = at_drop_all (λ l. value_in a (global_given (map group_seen l))) gs i past
