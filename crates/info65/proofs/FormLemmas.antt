-- Values that are read have the form of their attributes.
use Rattle.std.proofs.Common.{◌≡◌, ◌≤◌, ℕ, Bool, List, [], ◌∷◌, ◌++◌, ◌∙◌, true, false, ap, append_assoc, arith}
use Rattle.std.specs.Prelude.{IfOk, IfSome, option_map, Option, Some, None, Result, Ok, nat_le}
use Rattle.std.specs.List.{flat_map}
use Rattle.std.specs.Option.{option_or, unwrap_or}
use Rattle.std.proofs.lemmas.Bool.Decides.{nat_tests}
use Rattle.std.proofs.lemmas.List.{append-nil}
use denote.Bor.{Bor}
use Rattle.text65.specs.Names.{has_name_form}
use Rattle.info65.specs.Words.{Accepts, AreAllFormed, AreFormed, AreGroups, AreInLimits, AreOptions, AssignmentView, Attribute, Cpu, ValueForm, GroupKind, GroupView, HasForm, InfoFault, IsAtMost, IsColumn, IsGroup, Item, KindView, OptionsView, RangeType, Spells, TokenView, ValueView, a_name, a_number, as_name, as_number, boolean_named, boolean_of, boolean_value, character, comment_value, cpu_value, end_items, form_of, given_items, global_given, global_part, group, group_items, groups_of, has_comment_form, in_form, is_file_name, label_value, name_value, number, read, settings_of, string, tokens_of, type_named, type_value, value_in, value_of, without_marks, word}
use Rattle.isa65.specs.Words.{cpu_named}
use Rattle.info65.specs.declared.syntax.attribute.Attribute.TheVariants as attribute
use Rattle.info65.specs.declared.syntax.attribute.ValueForm.TheVariants as form
use Rattle.info65.specs.declared.syntax.attribute.GroupKind.TheVariants as group_kind
use Rattle.info65.proofs.Accepting.{groups_accepted}
use Rattle.info65.proofs.Cases.{by_test}

name_formed : (o : OptionsView) (a : Attribute) (line : ℕ) (text : List ℕ) → IfOk (name_value o a line text) (HasForm form.FileName)
unfolding name_value
name_formed o a line text = grind arith

cpu_formed : (line : ℕ) (c : Option Cpu) → IfOk (cpu_value line c) (HasForm form.CpuText)
cpu_formed line (Some c) = tt
cpu_formed line None = tt

type_formed : (line : ℕ) (r : Option RangeType) → IfOk (type_value line r) (HasForm form.TypeWord)
type_formed line (Some r) = tt
type_formed line None = tt

label_formed : (line : ℕ) (text : List ℕ) → IfOk (label_value line text) (HasForm form.Name)
label_formed line text = by_test (has_name_form text) (λ h. rw h h) (λ h. rw h tt)

comment_formed : (line : ℕ) (text : List ℕ) → IfOk (comment_value line text) (HasForm form.Comment)
comment_formed line text = by_test (has_comment_form text) (λ h. rw h h) (λ h. rw h tt)

boolean_formed : (line : ℕ) (b : Option Bool) → IfOk (boolean_value line b) (HasForm form.Boolean)
boolean_formed line (Some b) = tt
boolean_formed line None = tt

formed : (o : OptionsView) (a : Attribute) (line : ℕ) (source : List ℕ) (f : ValueForm) (k : KindView) → IfOk (in_form o a line source f k) (HasForm f)
formed o a line source form.FileName (string text) = name_formed o a line text
formed o a line source form.CpuText (string text) = cpu_formed line (cpu_named text)
formed o a line source form.TypeWord word = type_formed line (type_named source)
formed o a line source form.Name (string text) = label_formed line text
formed o a line source form.Comment (string text) = comment_formed line text
formed o a line source form.Boolean word = boolean_formed line (boolean_named source)
formed o a line source form.Boolean (number n) = boolean_formed line (boolean_of n)
formed o a line source form.Character (character b) = tt
formed o a line source form.Address (number n) = by_test (nat_le n 0xFFFF) (λ h. rw h (grind (arith, nat_tests, h))) (λ h. rw h tt)
formed o a line source (form.Number low high) (number n) = grind arith
formed o a line source _ _ = tt

at : {A : Type 0} (P : A → Type 0) (r : Result A InfoFault) (x : A) → r ≡ Ok x → IfOk r P → P x
at P r x e h = rw e at h

value_formed : (o : OptionsView) (a : Attribute) (t : TokenView) (v : ValueView) → value_of o a t ≡ Ok v → HasForm (form_of a) v
unfolding value_of
value_formed o a t v e = at (HasForm (form_of a)) (value_of o a t) v e (formed o a t.line t.text (form_of a) t.kind)

given_formed : (o : OptionsView) (k : GroupKind) (given : List AssignmentView) (rest : List Item) (ts : List TokenView) → Spells o (flat_map (given_items k) given ++ rest) ts → AreFormed given × ((more : List TokenView) × Spells o rest more)
given_formed o k [] rest ts h = (tt, (ts, h))
given_formed o k (g ∷ gs) rest [] h = absurd h
given_formed o k (g ∷ gs) rest (t ∷ []) h = absurd h.1
given_formed o k (g ∷ gs) rest (t ∷ u ∷ []) h = absurd h.1.1
given_formed o k (g ∷ gs) rest (t ∷ u ∷ v ∷ ts) h =
    let more = given_formed o k gs rest ts h.1.1.1 in ((value_formed o g.attribute u g.value h.1.0, more.0), more.1)

end_passed : (o : OptionsView) (b : Bool) (rest : List Item) (ts : List TokenView) → Spells o (end_items b ++ rest) ts → (more : List TokenView) × Spells o rest more
end_passed o true rest [] h = absurd h
end_passed o true rest (t ∷ []) h = absurd h.1
end_passed o true rest (t ∷ u ∷ ts) h = (ts, h.1.1)
end_passed o false rest [] h = absurd h
end_passed o false rest (t ∷ ts) h = (ts, h.1)

pub groups_formed : (o : OptionsView) (spelling : List (GroupView × Bool)) (ts : List TokenView) → Spells o (flat_map group_items spelling) ts → AreAllFormed (without_marks spelling)
groups_formed o [] ts h = tt
groups_formed o (g ∷ gs) [] h = absurd h
groups_formed o (g ∷ gs) (t ∷ []) h = absurd h.1
groups_formed o (g ∷ gs) (t ∷ u ∷ ts) h =
    let inner : Spells o (flat_map (given_items g.0.kind) g.0.given ++ (end_items g.1 ++ flat_map group_items gs)) ts =
    let e = append_assoc (flat_map (given_items g.0.kind) g.0.given) (end_items g.1) (flat_map group_items gs) in rw e at h.1.1 in
    let given = given_formed o g.0.kind g.0.given (end_items g.1 ++ flat_map group_items gs) ts inner in
    let more = end_passed o g.1 (flat_map group_items gs) given.1.0 given.1.1 in
    (given.0, groups_formed o gs more.0 more.1)

append_formed : (xs ys : List AssignmentView) → AreFormed xs → AreFormed ys → AreFormed (xs ++ ys)
append_formed [] ys h i = i
append_formed (x ∷ xs) ys h i = (h.0, append_formed xs ys h.1 i)

part_formed : (k : GroupKind) (given : List AssignmentView) → AreFormed given → AreFormed (global_part (record { kind = k; given = given }))
part_formed group_kind.Global given h = h
part_formed _ given h = tt

-- so has what the groups GLOBAL give
pub all_formed : (groups : List GroupView) → AreAllFormed groups → AreFormed (global_given groups)
unfolding global_given
all_formed [] h = tt
all_formed (g ∷ gs) h = append_formed (global_part g) (global_given gs) (part_formed g.kind g.given h.0) (all_formed gs h.1)

-- groups that are read of a text: they keep every condition, and what they give has the form of its attribute
pub record AreRead (groups : List GroupView) : Type 0 where
  pub keeps : AreGroups [] groups
  pub formed : AreAllFormed groups

pub accepted_read : (o : OptionsView) (ts : List TokenView) (groups : List GroupView) → Accepts o ts groups → AreRead groups
accepted_read o ts groups a = record { keeps = a.keeps; formed = rw a.of at (groups_formed o a.spelling ts a.spelled) }

pub text_read : (o : OptionsView) (bytes : List ℕ) (groups : List GroupView) → groups_of o bytes ≡ Ok groups → AreRead groups
unfolding groups_of read
text_read o bytes groups e = accepted_read o (tokens_of 1 bytes).tokens groups (groups_accepted o (tokens_of 1 bytes).tokens (tokens_of 1 bytes).ending groups e).1

groups_keep : (P : List GroupView → Type 0) → ((before : List GroupView) (k : GroupKind) (given : List AssignmentView) → IsGroup before (group k given) → AreFormed given → P before → P (before ++ group k given ∷ []))
    → (before gs : List GroupView) → AreGroups before gs → AreAllFormed gs → P before → P (before ++ gs)
groups_keep P more before [] h f p = rw (append-nil before) p
groups_keep P more before (g ∷ gs) h f p = rw (append_assoc before (g ∷ []) gs) at (groups_keep P more (before ++ g ∷ []) gs h.1 f.1 (more before g.kind g.given h.0 f.0 p))

-- what holds of no groups, and with each group more, holds of them
pub read_keeps : (P : List GroupView → Type 0) → ((before : List GroupView) (k : GroupKind) (given : List AssignmentView) → IsGroup before (group k given) → AreFormed given → P before → P (before ++ group k given ∷ []))
    → P [] → (groups : List GroupView) → AreRead groups → P groups
read_keeps P more none groups r = groups_keep P more [] groups r.keeps r.formed none

pub found_formed : (a : Attribute) (given : List AssignmentView) → AreFormed given → IfSome (value_in a given) (HasForm (form_of a))
unfolding value_in
found_formed a [] h = tt
found_formed a (g ∷ gs) h = grind (arith, (found_formed a gs h.1))

offset_in : (v : Option ValueView) → IfSome v (HasForm (form.Number 0 16_777_216)) → unwrap_or (as_number v) 0 ≤ 16_777_216
offset_in (Some (a_number n)) h = h.1
offset_in _ h = omega arith

pub size_in : (v : Option ValueView) → IfSome v (HasForm (form.Number 1 0x1_0000)) → IfSome (as_number v) (λ n. (1 ≤ n) × (n ≤ 0x1_0000))
size_in (Some (a_number n)) h = h
size_in _ h = tt

file_name_in : (v : Option ValueView) → IfSome v (HasForm form.FileName) → IfSome (as_name v) (λ t. is_file_name t ≡ true)
file_name_in (Some (a_name t)) h = h
file_name_in _ h = tt

-- the names of files among such values are file names
pub file_name_formed : (a : Attribute) (given : List AssignmentView) → form_of a ≡ form.FileName → AreFormed given → IfSome (as_name (value_in a given)) (λ t. is_file_name t ≡ true)
file_name_formed a given is h = file_name_in (value_in a given) (rw is at (found_formed a given h))

-- what the command line or a value gives, or else the default
number_in : (o : Option ℕ) (low high : ℕ) (v : Option ValueView) (d : ℕ) (P : ℕ → Type 0) → IfSome o P → IfSome v (HasForm (form.Number low high)) → ((n : ℕ) → low ≤ n → n ≤ high → P n) → P d → P (unwrap_or (option_or o (as_number v)) d)
number_in (Some n) low high v d P h f g k = h
number_in None low high (Some (a_number n)) d P h f g k = g n f.0 f.1
number_in None low high _ d P h f g k = k

at_most_in : (f : ValueForm) (v : Option ValueView) → IsAtMost 120 f → IfSome v (HasForm f) → IfSome (as_number v) (λ n. n ≤ 120)
at_most_in (form.Number low high) (Some (a_number n)) h k = omega (arith, h, k.1)
at_most_in (form.Number low high) (Some _) h k = tt
at_most_in (form.Number low high) None h k = tt
at_most_in _ v h k = absurd h

-- a number whose form limits it to 120
pub at_most_120 : (a : Attribute) (given : List AssignmentView) → IsAtMost 120 (form_of a) → AreFormed given → IfSome (as_number (value_in a given)) (λ n. n ≤ 120)
at_most_120 a given h f = at_most_in (form_of a) (value_in a given) h (found_formed a given f)

-- the settings of such values are in their limits
pub settings_in_limits : (o : OptionsView) (given : List AssignmentView) → AreOptions o → AreFormed given → AreInLimits (settings_of o given)
unfolding settings_of form_of
settings_in_limits o given l h = record {
  offset = offset_in (value_in attribute.InputOffset given) (found_formed attribute.InputOffset given h);
  size = size_in (value_in attribute.InputSize given) (found_formed attribute.InputSize given h);
  comments = number_in o.comments 0 4 (value_in attribute.Comments given) 0 (λ n. n ≤ 4) l.comments (found_formed attribute.Comments given h) (λ n l h. h) (omega arith);
  mnemonic_column = number_in o.mnemonic_column 1 120 (value_in attribute.MnemonicColumn given) 9 IsColumn l.mnemonic_column (found_formed attribute.MnemonicColumn given h) (λ n l h. (l, h)) (omega arith, omega arith);
  argument_column = number_in o.argument_column 1 120 (value_in attribute.ArgumentColumn given) 17 IsColumn l.argument_column (found_formed attribute.ArgumentColumn given h) (λ n l h. (l, h)) (omega arith, omega arith);
  comment_column = number_in o.comment_column 1 120 (value_in attribute.CommentColumn given) 49 IsColumn l.comment_column (found_formed attribute.CommentColumn given h) (λ n l h. (l, h)) (omega arith, omega arith);
  text_column = number_in o.text_column 1 120 (value_in attribute.TextColumn given) 81 IsColumn l.text_column (found_formed attribute.TextColumn given h) (λ n l h. (l, h)) (omega arith, omega arith);
  label_break = number_in o.label_break 0 120 (value_in attribute.LabelBreak given) 7 (λ n. n ≤ 120) l.label_break (found_formed attribute.LabelBreak given h) (λ n l h. h) (omega arith);
}

-- what is lent has the form of what is seen of it
pub lent_name : (o : Option (Bor (List ℕ))) (p : Option (List ℕ)) → option_map (λ s. s.now) o ≡ p → IfSome p (λ t. is_file_name t ≡ true) → IfSome o (λ s. is_file_name s.now ≡ true)
lent_name None p e h = tt
lent_name (Some s) (Some t) e h = let same : s.now ≡ t = cc in ap is_file_name same ∙ h
lent_name (Some s) None e h = absurd cc
