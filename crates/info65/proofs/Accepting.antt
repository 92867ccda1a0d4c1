-- What is read are groups, and groups are read.
use Rattle.std.proofs.Common.{arith, ◌≡◌, ◌∙◌, ℕ, Bool, List, [], ◌∷◌, ◌++◌, true, false, refl, ap, sym, inl, inr, append_assoc}
use Rattle.std.specs.Prelude.{Result, Ok, Err, IfOk, IsOk, Option, Some, None, ◌⊎◌}
use Rattle.std.specs.List.{flat_map}
use Rattle.std.proofs.lemmas.List.{append-nil}
use Rattle.info65.specs.Words.{Accepts, AreGroups, AreNew, AssignmentView, Attribute, GroupKind, GroupView, InfoFault, InfoFaultKind, IsToken, Item, KindView, OptionsView, Stage, Spells, State, TokenView, ValueView, after_group, assigned, at_attribute, at_brace, at_group, at_semicolon, attribute_at, attribute_named, closed, closed_by, closing_brace, closing_fault, end_items, finish, given_items, group, group_items, group_named, has_room, inside, is_given, one, opened, opening, opening_brace, outside, read_from, semicolon, step, value, value_of, valued, without_marks, word, ◌>>=◌}
use Rattle.info65.specs.Grammar.{mark}
use Rattle.info65.specs.Reader.{named, value_at}
use Rattle.info65.proofs.Cases.{by_result, by_test}

at : {A : Type 0} (P : A → Type 0) (r : Result A InfoFault) (x : A) → r ≡ Ok x → IfOk r P → P x
at P r x e h = rw e at h

-- ---- a step, as a relation

abbrev Names : List GroupView → TokenView → State → Type 0
Names before t q = (k : GroupKind) × (t.kind ≡ word) × (group_named t.text ≡ Some k) × (q ≡ (opening k, before))

abbrev Step : OptionsView → Stage → List GroupView → TokenView → State → Type 0
Step o outside before t q = Names before t q
Step o closed before t q = ((t.kind ≡ semicolon) × (q ≡ (outside, before))) ⊎ Names before t q
Step o (opening k) before t q = (t.kind ≡ opening_brace) × (q ≡ (inside k [], before))
Step o (inside k given) before t q =
    ((t.kind ≡ closing_brace) × (closing_fault before k given ≡ None) × (q ≡ (closed, before ++ group k given ∷ [])))
    ⊎ ((a : Attribute) × (t.kind ≡ word) × (attribute_named k t.text ≡ Some a) × (is_given before k given a ≡ false) × (q ≡ (valued k given a, before)))
Step o (valued k given a) before t q = (v : ValueView) × (value_of o a t ≡ Ok v) × (has_room before a ≡ true) × (q ≡ (assigned k (given ++ one a v ∷ []), before))
Step o (assigned k given) before t q = (t.kind ≡ semicolon) × (q ≡ (inside k given, before))

opened_read : (before : List GroupView) (t : TokenView) (n : Option GroupKind) → t.kind ≡ word → group_named t.text ≡ n → IfOk (opened before t.line n) (Names before t)
opened_read before t None w e = tt
opened_read before t (Some k) w e = (k, w, e, refl)

group_read : (before : List GroupView) (t : TokenView) (k : KindView) → t.kind ≡ k → IfOk (at_group before t k) (Names before t)
group_read before t word e = opened_read before t (group_named t.text) e refl
group_read before t _ e = tt

as_closed : (o : OptionsView) (before : List GroupView) (t : TokenView) (r : Result State InfoFault) → IfOk r (Names before t) → IfOk r (Step o closed before t)
as_closed o before t (Ok q) h = inr h
as_closed o before t (Err e) h = tt

after_read : (o : OptionsView) (before : List GroupView) (t : TokenView) (k : KindView) → t.kind ≡ k → IfOk (after_group before t k) (Step o closed before t)
after_read o before t semicolon e = inl (e, refl)
after_read o before t word e = as_closed o before t (at_group before t word) (group_read before t word e)
after_read o before t _ e = tt

brace_read : (o : OptionsView) (before : List GroupView) (g : GroupKind) (t : TokenView) (k : KindView) → t.kind ≡ k → IfOk (at_brace before g t k) (Step o (opening g) before t)
brace_read o before g t opening_brace e = (e, refl)
brace_read o before g t _ e = tt

closed_read : (o : OptionsView) (before : List GroupView) (g : GroupKind) (given : List AssignmentView) (t : TokenView) (f : Option InfoFaultKind) → t.kind ≡ closing_brace → closing_fault before g given ≡ f → IfOk (closed_by before g given t.line f) (Step o (inside g given) before t)
closed_read o before g given t None w e = inl (w, e, refl)
closed_read o before g given t (Some f) w e = tt

named_read : (o : OptionsView) (before : List GroupView) (g : GroupKind) (given : List AssignmentView) (t : TokenView) (n : Option Attribute) → t.kind ≡ word → attribute_named g t.text ≡ n → IfOk (named before g given t.line n >>= λ a. Ok (valued g given a, before)) (Step o (inside g given) before t)
named_read o before g given t None w e = tt
named_read o before g given t (Some a) w e = by_test (is_given before g given a) (λ n. rw n tt) (λ n. rw n (inr (a, w, e, n, refl)))

inside_read : (o : OptionsView) (before : List GroupView) (g : GroupKind) (given : List AssignmentView) (t : TokenView) (k : KindView) → t.kind ≡ k → IfOk (at_attribute before g given t k) (Step o (inside g given) before t)
unfolding attribute_at
inside_read o before g given t closing_brace e = closed_read o before g given t (closing_fault before g given) e refl
inside_read o before g given t word e = named_read o before g given t (attribute_named g t.text) e refl
inside_read o before g given t _ e = tt

semicolon_read : (o : OptionsView) (before : List GroupView) (g : GroupKind) (given : List AssignmentView) (t : TokenView) (k : KindView) → t.kind ≡ k → IfOk (at_semicolon before g given t k) (Step o (assigned g given) before t)
semicolon_read o before g given t semicolon e = (e, refl)
semicolon_read o before g given t _ e = tt

value_read : (o : OptionsView) (k : GroupKind) (given : List AssignmentView) (a : Attribute) (before : List GroupView) (t : TokenView) → IfOk (value_at o before a t >>= λ v. Ok (assigned k (given ++ one a v ∷ []), before)) (Step o (valued k given a) before t)
unfolding value_at
value_read o k given a before t = grind arith

step_read : (o : OptionsView) (p : Stage) (before : List GroupView) (t : TokenView) → IfOk (step o p before t) (Step o p before t)
unfolding step
step_read o outside before t = group_read before t t.kind refl
step_read o closed before t = after_read o before t t.kind refl
step_read o (opening k) before t = brace_read o before k t t.kind refl
step_read o (inside k given) before t = inside_read o before k given t t.kind refl
step_read o (valued k given a) before t = value_read o k given a before t
step_read o (assigned k given) before t = semicolon_read o before k given t t.kind refl

step_again : (o : OptionsView) (p : Stage) (before : List GroupView) (t : TokenView) (q : State) → Step o p before t q → step o p before t ≡ Ok q
unfolding step attribute_at value_at
step_again o outside before t q h = rw (h.1, h.2, h.3) refl
step_again o closed before t q (inl h) = rw (h.0, h.1) refl
step_again o closed before t q (inr h) = rw (h.1, h.2, h.3) refl
step_again o (opening k) before t q h = rw (h.0, h.1) refl
step_again o (inside k given) before t q (inl h) = rw (h.0, h.1, h.2) refl
step_again o (inside k given) before t q (inr h) = rw (h.1, h.2, h.3, h.4) refl
step_again o (valued k given a) before t q h = rw (h.1, h.2, h.3) refl
step_again o (assigned k given) before t q h = rw (h.0, h.1) refl

-- ---- what is left of a file, at a place

abbrev file_items : List (GroupView × Bool) → List Item
file_items spelling = flat_map group_items spelling

record Outside (o : OptionsView) (items : List Item) (before : List GroupView) (ts : List TokenView) (result : List GroupView) : Type 0 where
  spelling : List (GroupView × Bool)
  spelled : Spells o (items ++ file_items spelling) ts
  keeps : AreGroups before (without_marks spelling)
  gives : before ++ without_marks spelling ≡ result

record Inside (o : OptionsView) (items : List Item) (k : GroupKind) (given : List AssignmentView) (before : List GroupView) (ts : List TokenView) (result : List GroupView) : Type 0 where
  more : List AssignmentView
  closed : Bool
  spelling : List (GroupView × Bool)
  spelled : Spells o (items ++ ((flat_map (given_items k) more ++ end_items closed) ++ file_items spelling)) ts
  new : AreNew before k given more
  closes : closing_fault before k (given ++ more) ≡ None
  keeps : AreGroups (before ++ group k (given ++ more) ∷ []) (without_marks spelling)
  gives : (before ++ group k (given ++ more) ∷ []) ++ without_marks spelling ≡ result

abbrev Rest : OptionsView → Stage → List GroupView → List TokenView → List GroupView → Type 0
Rest o outside before ts r = Outside o [] before ts r
Rest o closed before ts r = Outside o [] before ts r ⊎ Outside o (mark semicolon ∷ []) before ts r
Rest o (opening k) before ts r = Inside o (mark opening_brace ∷ []) k [] before ts r
Rest o (inside k given) before ts r = Inside o [] k given before ts r
Rest o (valued k given a) before ts r = (v : ValueView) × (has_room before a ≡ true) × Inside o (value a v ∷ mark semicolon ∷ []) k (given ++ one a v ∷ []) before ts r
Rest o (assigned k given) before ts r = Inside o (mark semicolon ∷ []) k given before ts r

-- the same with a token in front, which is that item
pushed : (o : OptionsView) (i : Item) (items : List Item) (k : GroupKind) (given : List AssignmentView) (before : List GroupView) (t : TokenView) (ts : List TokenView) (r : List GroupView) → IsToken o i t → Inside o items k given before ts r → Inside o (i ∷ items) k given before (t ∷ ts) r
pushed o i items k given before t ts r h x = record { more = x.more; closed = x.closed; spelling = x.spelling; spelled = (h, x.spelled); new = x.new; closes = x.closes; keeps = x.keeps; gives = x.gives }

popped : (o : OptionsView) (i : Item) (items : List Item) (k : GroupKind) (given : List AssignmentView) (before : List GroupView) (t : TokenView) (ts : List TokenView) (r : List GroupView) → Inside o (i ∷ items) k given before (t ∷ ts) r → IsToken o i t × Inside o items k given before ts r
popped o i items k given before t ts r x = (x.spelled.0, record { more = x.more; closed = x.closed; spelling = x.spelling; spelled = x.spelled.1; new = x.new; closes = x.closes; keeps = x.keeps; gives = x.gives })

group_front : (o : OptionsView) (k : GroupKind) (before : List GroupView) (t : TokenView) (ts : List TokenView) (r : List GroupView) → t.kind ≡ word → group_named t.text ≡ Some k → Inside o (mark opening_brace ∷ []) k [] before ts r → Outside o [] before (t ∷ ts) r
group_front o k before t ts r w g i = record {
  spelling = (group k i.more, i.closed) ∷ i.spelling;
  spelled = ((w, g), i.spelled);
  keeps = (record { new = i.new; closes = i.closes }, i.keeps);
  gives = sym (append_assoc before (group k i.more ∷ []) (without_marks i.spelling)) ∙ i.gives;
}

-- the end of a group
close_front : (o : OptionsView) (b : Bool) (k : GroupKind) (given : List AssignmentView) (before : List GroupView) (t : TokenView) (ts : List TokenView) (r : List GroupView) → closing_fault before k given ≡ None
    → (spelling : List (GroupView × Bool)) → Spells o (end_items b ++ file_items spelling) (t ∷ ts) → AreGroups (before ++ group k given ∷ []) (without_marks spelling) → (before ++ group k given ∷ []) ++ without_marks spelling ≡ r
    → Inside o [] k given before (t ∷ ts) r
close_front o b k given before t ts r c spelling h keeps gives =
    let e = append-nil given in
    record { more = []; closed = b; spelling = spelling; spelled = h; new = tt; closes = rw e c; keeps = rw e keeps; gives = rw e gives }

name_front : (o : OptionsView) (a : Attribute) (k : GroupKind) (given : List AssignmentView) (before : List GroupView) (t : TokenView) (ts : List TokenView) (r : List GroupView) → t.kind ≡ word → attribute_named k t.text ≡ Some a → is_given before k given a ≡ false → Rest o (valued k given a) before ts r → Inside o [] k given before (t ∷ ts) r
name_front o a k given before t ts r w n g h = grind (arith, append_assoc)

in_front : (o : OptionsView) (p : Stage) (before : List GroupView) (t : TokenView) (q : State) (ts : List TokenView) (r : List GroupView) → Step o p before t q → Rest o q.0 q.1 ts r → Rest o p before (t ∷ ts) r
in_front o outside before t q ts r h rest = group_front o h.0 before t ts r h.1 h.2 (rw h.3 at rest)
in_front o closed before t q ts r (inl h) rest = grind arith
in_front o closed before t q ts r (inr h) rest = inl (group_front o h.0 before t ts r h.1 h.2 (rw h.3 at rest))
in_front o (opening k) before t q ts r h rest = pushed o (mark opening_brace) [] k [] before t ts r h.0 (rw h.1 at rest)
in_front o (inside k given) before t q ts r (inl h) rest = ending (rw h.2 at rest)
  where
    ending : Rest o closed (before ++ group k given ∷ []) ts r → Inside o [] k given before (t ∷ ts) r
    ending (inl s) = close_front o false k given before t ts r h.1 s.spelling (h.0, s.spelled) s.keeps s.gives
    ending (inr s) = close_front o true k given before t ts r h.1 s.spelling (h.0, s.spelled) s.keeps s.gives
in_front o (inside k given) before t q ts r (inr h) rest = name_front o h.0 k given before t ts r h.1 h.2 h.3 (rw h.4 at rest)
in_front o (valued k given a) before t q ts r h rest = (h.0, h.2, pushed o (value a h.0) (mark semicolon ∷ []) k (given ++ one a h.0 ∷ []) before t ts r h.1 (rw h.3 at rest))
in_front o (assigned k given) before t q ts r h rest = pushed o (mark semicolon) [] k given before t ts r h.0 (rw h.1 at rest)

-- what begins with a group, or with the rest of one
group_off : (o : OptionsView) (before : List GroupView) (t : TokenView) (ts : List TokenView) (r : List GroupView) (spelling : List (GroupView × Bool)) → Spells o (file_items spelling) (t ∷ ts) → AreGroups before (without_marks spelling) → before ++ without_marks spelling ≡ r
    → (k : GroupKind) × (t.kind ≡ word) × (group_named t.text ≡ Some k) × Inside o (mark opening_brace ∷ []) k [] before ts r
group_off o before t ts r [] h keeps e = absurd h
group_off o before t ts r (g ∷ gs) h keeps e = grind (arith, append_assoc)

inside_off : (o : OptionsView) (k : GroupKind) (given : List AssignmentView) (before : List GroupView) (t : TokenView) (ts : List TokenView) (r : List GroupView) (more : List AssignmentView) (b : Bool) (spelling : List (GroupView × Bool))
    → Spells o ((flat_map (given_items k) more ++ end_items b) ++ file_items spelling) (t ∷ ts) → AreNew before k given more → closing_fault before k (given ++ more) ≡ None
    → AreGroups (before ++ group k (given ++ more) ∷ []) (without_marks spelling) → (before ++ group k (given ++ more) ∷ []) ++ without_marks spelling ≡ r
    → (q : State) × Step o (inside k given) before t q × Rest o q.0 q.1 ts r
inside_off o k given before t ts r [] true spelling h n c keeps e =
    let nil = append-nil given in
    ((closed, before ++ group k given ∷ []), inl (h.0, rw nil at c, refl), inr (record { spelling = spelling; spelled = h.1; keeps = rw nil at keeps; gives = rw nil at e }))
inside_off o k given before t ts r [] false spelling h n c keeps e =
    let nil = append-nil given in
    ((closed, before ++ group k given ∷ []), inl (h.0, rw nil at c, refl), inl (record { spelling = spelling; spelled = h.1; keeps = rw nil at keeps; gives = rw nil at e }))
inside_off o k given before t ts r (x ∷ xs) b spelling h n c keeps e =
    let a = append_assoc given (x ∷ []) xs in (
      (valued k given x.attribute, before),
      inr (x.attribute, h.0.0, h.0.1, n.0, refl),
      (x.value, n.1, record { more = xs; closed = b; spelling = spelling; spelled = h.1; new = n.2; closes = rw a c; keeps = rw a keeps; gives = rw a e }),
    )

taken_off : (o : OptionsView) (p : Stage) (before : List GroupView) (t : TokenView) (ts : List TokenView) (r : List GroupView) → Rest o p before (t ∷ ts) r → (q : State) × Step o p before t q × Rest o q.0 q.1 ts r
taken_off o outside before t ts r h = let g = group_off o before t ts r h.spelling h.spelled h.keeps h.gives in ((opening g.0, before), (g.0, g.1, g.2, refl), g.3)
taken_off o closed before t ts r (inl h) = let g = group_off o before t ts r h.spelling h.spelled h.keeps h.gives in ((opening g.0, before), inr (g.0, g.1, g.2, refl), g.3)
taken_off o closed before t ts r (inr h) = ((outside, before), inl (h.spelled.0, refl), record { spelling = h.spelling; spelled = h.spelled.1; keeps = h.keeps; gives = h.gives })
taken_off o (opening k) before t ts r h = let i = popped o (mark opening_brace) [] k [] before t ts r h in ((inside k [], before), (i.0, refl), i.1)
taken_off o (inside k given) before t ts r h = inside_off o k given before t ts r h.more h.closed h.spelling h.spelled h.new h.closes h.keeps h.gives
taken_off o (valued k given a) before t ts r h = let i = popped o (value a h.0) (mark semicolon ∷ []) k (given ++ one a h.0 ∷ []) before t ts r h.2 in ((assigned k (given ++ one a h.0 ∷ []), before), (h.0, i.0, h.1, refl), i.1)
taken_off o (assigned k given) before t ts r h = let i = popped o (mark semicolon) [] k given before t ts r h in ((inside k given, before), (i.0, refl), i.1)

no_groups : (o : OptionsView) (before r : List GroupView) (spelling : List (GroupView × Bool)) → Spells o (file_items spelling) [] → before ++ without_marks spelling ≡ r → before ≡ r
no_groups o before r [] h e = sym (append-nil before) ∙ e
no_groups o before r (g ∷ gs) h e = absurd h

not_inside : (o : OptionsView) (k : GroupKind) (more : List AssignmentView) (b : Bool) (spelling : List (GroupView × Bool)) → Spells o ((flat_map (given_items k) more ++ end_items b) ++ file_items spelling) [] → ⊥
not_inside o k [] true spelling h = h
not_inside o k [] false spelling h = h
not_inside o k (x ∷ xs) b spelling h = h

at_end : (o : OptionsView) (p : Stage) (before r : List GroupView) (ending : Result ℕ InfoFault) → IsOk ending → Rest o p before [] r → finish p before ending ≡ Ok r
unfolding finish
at_end o p before r (Err e) ok h = absurd cc
at_end o outside before r (Ok line) ok h = ap (λ x. Ok x) (no_groups o before r h.spelling h.spelled h.gives)
at_end o closed before r (Ok line) ok (inl h) = ap (λ x. Ok x) (no_groups o before r h.spelling h.spelled h.gives)
at_end o closed before r (Ok line) ok (inr h) = absurd h.spelled
at_end o (opening k) before r (Ok line) ok h = absurd h.spelled
at_end o (inside k given) before r (Ok line) ok h = absurd (not_inside o k h.more h.closed h.spelling h.spelled)
at_end o (valued k given a) before r (Ok line) ok h = absurd h.2.spelled
at_end o (assigned k given) before r (Ok line) ok h = absurd h.spelled

ended : (o : OptionsView) (p : Stage) (before : List GroupView) (ending : Result ℕ InfoFault) → IfOk (finish p before ending) (λ r. IsOk ending × Rest o p before [] r)
unfolding finish
ended o outside before (Ok line) = (refl, record { spelling = []; spelled = tt; keeps = tt; gives = append-nil before })
ended o closed before (Ok line) = (refl, inl (record { spelling = []; spelled = tt; keeps = tt; gives = append-nil before }))
ended o _ before _ = tt

-- ---- the law

read_rest : (o : OptionsView) (p : Stage) (before : List GroupView) (ts : List TokenView) (ending : Result ℕ InfoFault) → IfOk (read_from o p before ts ending) (λ r. IsOk ending × Rest o p before ts r)
unfolding read_from
read_rest o p before [] ending = ended o p before ending
read_rest o p before (t ∷ ts) ending =
    by_result (step o p before t)
    (λ q e. rw e (by_result (read_from o q.0 q.1 ts ending)
    (λ r g. let i = at (λ r. IsOk ending × Rest o q.0 q.1 ts r) (read_from o q.0 q.1 ts ending) r g (read_rest o q.0 q.1 ts ending) in
    rw g (i.0, in_front o p before t q ts r (at (Step o p before t) (step o p before t) q e (step_read o p before t)) i.1))
    (λ f g. rw g tt)))
    (λ f e. rw e tt)

rest_read : (o : OptionsView) (p : Stage) (before r : List GroupView) (ts : List TokenView) (ending : Result ℕ InfoFault) → IsOk ending → Rest o p before ts r → read_from o p before ts ending ≡ Ok r
unfolding read_from
rest_read o p before r [] ending ok h = at_end o p before r ending ok h
rest_read o p before r (t ∷ ts) ending ok h =
    let d = taken_off o p before t ts r h in rw (step_again o p before t d.0 d.1) (rest_read o d.0.0 d.0.1 r ts ending ok d.2)

-- the groups of tokens are those that the tokens spell
pub groups_accepted : (o : OptionsView) (ts : List TokenView) (ending : Result ℕ InfoFault) (groups : List GroupView) → read_from o outside [] ts ending ≡ Ok groups → IsOk ending × Accepts o ts groups
groups_accepted o ts ending groups e =
    let h = at _ (read_from o outside [] ts ending) groups e (read_rest o outside [] ts ending) in
    (h.0, record { spelling = h.1.spelling; of = h.1.gives; spelled = h.1.spelled; keeps = rw h.1.gives at h.1.keeps })

pub accepted_groups : (o : OptionsView) (ts : List TokenView) (ending : Result ℕ InfoFault) (groups : List GroupView) → IsOk ending → Accepts o ts groups → read_from o outside [] ts ending ≡ Ok groups
accepted_groups o ts ending groups ok a = rest_read o outside [] groups ts ending ok (record { spelling = a.spelling; spelled = a.spelled; keeps = rw a.of a.keeps; gives = a.of })
