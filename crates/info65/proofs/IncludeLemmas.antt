-- The include files of an accepted file.
use Rattle.std.proofs.Common.{◌≡◌, ◌∙◌, ◌<◌, ◌≤◌, ◌+◌, ℕ, Bool, true, false, List, [], ◌∷◌, ◌++◌, zero, suc, ap, arith, drop, get_or, inl, inr, length, length-append, map, refl, sym}
use Rattle.std.specs.Prelude.{All, IfSome, Option, Some, None, Result, Ok, Err}
use Rattle.std.specs.List.{flat_map}
use Rattle.std.specs.Option.{unwrap_or}
use Rattle.std.proofs.lemmas.Bool.{ltb-true}
use Rattle.std.proofs.lemmas.Grind.{flat_map-append}
use Rattle.std.proofs.lemmas.List.{append-nil, at_drop_all, at_drop_more}
use Rattle.std.proofs.lemmas.List.Elements.{All-append, All-cons, All-nil}
use denote.Enum.Bare.{same_true}
use Rattle.info65.specs.contracts.syntax.attribute.Attribute as attribute_type
use Rattle.info65.specs.Words.{AreAllFormed, AreFormed, AreGroups, AreIncludes, AreNew, AssignmentView, Attribute, Group, GroupKind, GroupView, HasForm, IncludeView, InfoFaultKind, ValueView, a_name, as_boolean, as_character, as_name, closing_fault, form_of, group_seen, has_room, include_from, include_in, include_part, includes_of, is_file_name, is_of, tokens_of, value_in}
use Rattle.info65.specs.declared.syntax.attribute.Attribute.TheVariants as attribute
use Rattle.info65.specs.declared.syntax.attribute.ValueForm.TheVariants as form
use Rattle.info65.specs.declared.syntax.attribute.GroupKind.TheVariants as kind
use Rattle.info65.proofs.Cases.{by_test}
use Rattle.info65.proofs.FormLemmas.{AreRead, accepted_read, file_name_formed, found_formed, read_keeps}
use Rattle.info65.proofs.SegmentLemmas.{text_is}

-- the group at a place of the list is the next
pub includes_next : {Z : Type 0} (gs : List (Group Z)) (i : ℕ) (x : Group Z) → i < length gs → x ≡ get_or gs i x
    → includes_of (map group_seen (drop i gs)) ≡ include_part (group_seen x) ++ includes_of (map group_seen (drop (i + 1) gs))
unfolding includes_of
includes_next gs i x here is =
    at_drop_more (λ l. includes_of (map group_seen l)) gs i x here
    ∙ ap (λ y. includes_of (group_seen y ∷ map group_seen (drop (i + 1) gs))) (sym is)

pub includes_none : {Z : Type 0} (gs : List (Group Z)) (i : ℕ) → length gs ≤ i → includes_of (map group_seen (drop i gs)) ≡ []
unfolding includes_of
includes_none gs i past = at_drop_all (λ l. includes_of (map group_seen l)) gs i past

abbrev Named : List IncludeView → Type 0
Named is = All (λ i. is_file_name i.file ≡ true) is

-- the file that a group ASMINC says has a file name
pub named_in : (given : List AssignmentView) (i : IncludeView) → AreFormed given → include_in given ≡ Ok i → is_file_name i.file ≡ true
unfolding include_in form_of
named_in given i f is = by_file (as_name (value_in attribute.File given)) (as_character (value_in attribute.CommentStart given)) (as_boolean (value_in attribute.IgnoreUnknown given)) (file_name_formed attribute.File given refl f) is
  where
    by_file : (n : Option (List ℕ)) (b : Option ℕ) (o : Option Bool) → IfSome n (λ t. is_file_name t ≡ true) → include_from n b o ≡ Ok i → is_file_name i.file ≡ true
    by_file (Some t) b o h e = let same : i.file ≡ t = cc in ap is_file_name same ∙ h
    by_file None b o h e = absurd cc

part_named : (k : GroupKind) (given : List AssignmentView) (x : Result IncludeView InfoFaultKind) → AreFormed given → include_in given ≡ x → Named (include_part (record { kind = k; given = given }))
part_named kind.Include given (Ok i) f e = rw e (All-cons (λ (x : IncludeView). is_file_name x.file ≡ true) i [] (named_in given i f e) (All-nil (λ (x : IncludeView). is_file_name x.file ≡ true)))
part_named kind.Include given (Err w) f e = rw e (All-nil (λ (x : IncludeView). is_file_name x.file ≡ true))
part_named _ given x f e = All-nil (λ (x : IncludeView). is_file_name x.file ≡ true)

all_named : (groups : List GroupView) → AreAllFormed groups → Named (includes_of groups)
unfolding includes_of
all_named [] f = All-nil (λ (x : IncludeView). is_file_name x.file ≡ true)
all_named (g ∷ gs) f = All-append (λ i. is_file_name i.file ≡ true) (include_part g) (includes_of gs) (part_named g.kind g.given (include_in g.given) f.0 refl) (all_named gs f.1)

-- a group says one include file at most
pub part_length : (g : GroupView) → length (include_part g) ≤ 1
part_length g = grind arith

pub formed_at : {Z : Type 0} (gs : List (Group Z)) (i : ℕ) (x : Group Z) → i < length gs → x ≡ get_or gs i x → AreAllFormed (map group_seen gs) → AreFormed (group_seen x).given
formed_at [] i x here is f = absurd (omega (arith, here))
formed_at (y ∷ ys) zero x here is f = rw is f.0
formed_at (y ∷ ys) (suc i) x here is f = formed_at ys i x (omega (arith, here)) is f.1

-- the include file of a group whose values are formed has a file name
pub part_file : (g : GroupView) (i : IncludeView) → AreFormed g.given → (i ∷ []) ≡ include_part g → is_file_name i.file ≡ true
part_file g i f is = grind (arith, named_in)

-- ---- at most 16

-- an attribute that is given had room
room_for : (before : List GroupView) (k : GroupKind) (given xs : List AssignmentView) (a : Attribute) (v : ValueView) → AreNew before k given xs → value_in a xs ≡ Some v → has_room before a ≡ true
unfolding value_in
room_for before k given [] a v h e = absurd cc
room_for before k given (x ∷ xs) a v h e =
    by_test (is_of a x)
    (λ hit. ap (has_room before) (same_true attribute_type.the_type tt a x.attribute hit) ∙ h.1)
    (λ miss. room_for before k (given ++ x ∷ []) xs a v h.2 (rw miss at e))

file_in : (given : List AssignmentView) (i : IncludeView) → include_in given ≡ Ok i → value_in attribute.File given ≡ Some (a_name i.file)
unfolding include_in
file_in given i is = grind (arith, text_is)

includes_more : (before : List GroupView) (g : GroupView) → includes_of (before ++ g ∷ []) ≡ includes_of before ++ include_part g
unfolding includes_of
includes_more before g = flat_map-append include_part before (g ∷ []) ∙ ap (λ l. flat_map include_part before ++ l) (append-nil (include_part g))

few_before : (before : List GroupView) → has_room before attribute.File ≡ true → length (includes_of before) < 16
unfolding has_room
few_before before h = ltb-true (length (includes_of before)) 16 h

part_few : (before : List GroupView) (k : GroupKind) (given : List AssignmentView) (x : Result IncludeView InfoFaultKind) → AreNew before k [] given → include_in given ≡ x → length (includes_of before) ≤ 16
    → length (includes_of before) + length (include_part (record { kind = k; given = given })) ≤ 16
part_few before kind.Include given (Ok i) new e few = grind (arith, few_before, room_for, file_in)
part_few before kind.Include given (Err f) new e few = rw e (omega (arith, few))
part_few before _ given x new e few = omega (arith, few)

few_more : (before : List GroupView) (k : GroupKind) (given : List AssignmentView) → AreNew before k [] given → length (includes_of before) ≤ 16 → length (includes_of (before ++ record { kind = k; given = given } ∷ [])) ≤ 16
few_more before k given new few = grind (arith, part_few, includes_more, length-append)

none_few : length (includes_of []) ≤ 16
unfolding includes_of
none_few = omega arith

pub includes_sound : (groups : List GroupView) → AreRead groups → AreIncludes (includes_of groups)
includes_sound groups r = record { few = read_keeps (λ gs. length (includes_of gs) ≤ 16) (λ before k given g f few. few_more before k given g.new few) none_few groups r; each = all_named groups r.formed }
