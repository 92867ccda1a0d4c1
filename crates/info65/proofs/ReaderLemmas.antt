-- One token more, at each place.
use Rattle.std.proofs.Common.{◌≡◌, ◌∙◌, ℕ, Bool, ◌&&◌, List, [], ◌∷◌, ◌++◌, true, false, refl, ap, inl, inr, sym}
use Rattle.std.specs.Prelude.{Result, Ok, Err, Some, None, not}
use Rattle.info65.specs.Words.{AssignmentView, Attribute, Expected, Fails, GroupKind, Grows, GroupView, InfoFault, KindView, Leads, OptionsView, Stage, Stream, TokenKind, TokenView, UnknownGroup, ValueView, after_group, assigned, at_attribute, at_brace, at_end, at_group, at_semicolon, attribute_at, closed, closed_by, closing_fault, ended, fault, finish, group_named, inside, is_semicolon, kind_seen, one, opened, opening, outside, place_after, read, read_from, read_token, refused, semicolon, step, valued, wanted, with_token, ◌>>=◌}
use Rattle.info65.specs.Code.Steps.{Takes}
use Rattle.info65.specs.Reader.{value_at}
use Rattle.info65.specs.declared.syntax.token.TokenKind.TheVariants as kind

-- the next token is read
pub read_next : (o : OptionsView) (p : Stage) (b : List GroupView) (t : TokenView) (old new : Stream) → old ≡ with_token t new → read o p b old ≡ read_token o p b t new
unfolding read read_token read_from
read_next o p b t old new is = ap (read o p b) is

-- no token is left
read_none : (o : OptionsView) (p : Stage) (b : List GroupView) (old : Stream) → old.tokens ≡ [] → read o p b old ≡ finish p b old.ending
unfolding read read_from
read_none o p b old is = ap (λ (ts : List TokenView). read_from o p b ts old.ending) is

-- a token that is taken
token_taken : (o : OptionsView) (p q : Stage) (b c : List GroupView) (t : TokenView) (rest : Stream) → step o p b t ≡ Ok (q, c) → read_token o p b t rest ≡ read o q c rest
unfolding read_token
token_taken o p q b c t rest is = ap (λ r. r >>= λ x. read o x.0 x.1 rest) is

-- a token that is refused
token_refused : (o : OptionsView) (p : Stage) (b : List GroupView) (t : TokenView) (rest : Stream) (e : InfoFault) → step o p b t ≡ Err e → read_token o p b t rest ≡ Err e
unfolding read_token
token_refused o p b t rest e is = ap (λ r. r >>= λ x. read o x.0 x.1 rest) is

-- the end or a fault, where a token is due
pub missing : (o : OptionsView) (p : Stage) (b : List GroupView) (old : Stream) (e : InfoFault) → finish p b old.ending ≡ Err (wanted old.ending) → (old.tokens ≡ []) × (wanted old.ending ≡ e) → read o p b old ≡ Err e
missing o p b old e due is = read_none o p b old is.0 ∙ due ∙ ap (λ w. Err w) is.1

-- a token of another kind
brace_no : (k : GroupKind) (b : List GroupView) (t : TokenView) (x : TokenKind) → (x ≡ kind.OpenBrace → ⊥) → at_brace b k t (kind_seen x) ≡ Err (fault t.line Expected)
brace_no k b t kind.OpenBrace isnt = absurd (isnt refl)
brace_no k b t _ isnt = refl

semicolon_no : (k : GroupKind) (given : List AssignmentView) (b : List GroupView) (t : TokenView) (x : TokenKind) → (x ≡ kind.Semicolon → ⊥) → at_semicolon b k given t (kind_seen x) ≡ Err (fault t.line Expected)
semicolon_no k given b t kind.Semicolon isnt = absurd (isnt refl)
semicolon_no k given b t _ isnt = refl

group_no : (b : List GroupView) (t : TokenView) (x : TokenKind) → (x ≡ kind.Word → ⊥) → at_group b t (kind_seen x) ≡ Err (fault t.line Expected)
group_no b t kind.Word isnt = absurd (isnt refl)
group_no b t _ isnt = refl

attribute_no : (k : GroupKind) (given : List AssignmentView) (b : List GroupView) (t : TokenView) (x : TokenKind) → (x ≡ kind.Word → ⊥) → (x ≡ kind.CloseBrace → ⊥) → at_attribute b k given t (kind_seen x) ≡ Err (fault t.line Expected)
attribute_no k given b t kind.Word isnt other = absurd (isnt refl)
attribute_no k given b t kind.CloseBrace isnt other = absurd (other refl)
attribute_no k given b t _ isnt other = refl

after_no : (b : List GroupView) (t : TokenView) (x : KindView) → is_semicolon x ≡ false → after_group b t x ≡ at_group b t x
after_no b t semicolon isnt = absurd cc
after_no b t _ isnt = refl

after_yes : (b : List GroupView) (t : TokenView) (x : KindView) → is_semicolon x ≡ true → after_group b t x ≡ Ok (outside, b)
after_yes b t semicolon is = refl
after_yes b t _ is = absurd cc

-- ---- each token at each place

pub brace_taken : (o : OptionsView) (k : GroupKind) (b : List GroupView) (t : TokenView) (x : TokenKind) (rest : Stream) → t.kind ≡ kind_seen x → x ≡ kind.OpenBrace → read_token o (opening k) b t rest ≡ read o (inside k []) b rest
unfolding step
brace_taken o k b t x rest is brace = token_taken o (opening k) (inside k []) b b t rest (ap (at_brace b k t) (is ∙ ap kind_seen brace))

pub brace_refused : (o : OptionsView) (k : GroupKind) (b : List GroupView) (t : TokenView) (x : TokenKind) (rest : Stream) → t.kind ≡ kind_seen x → (x ≡ kind.OpenBrace → ⊥) → read_token o (opening k) b t rest ≡ Err (fault t.line Expected)
unfolding step
brace_refused o k b t x rest is isnt = token_refused o (opening k) b t rest _ (ap (at_brace b k t) is ∙ brace_no k b t x isnt)

pub separator_taken : (o : OptionsView) (k : GroupKind) (given : List AssignmentView) (b : List GroupView) (t : TokenView) (x : TokenKind) (rest : Stream) → t.kind ≡ kind_seen x → x ≡ kind.Semicolon → read_token o (assigned k given) b t rest ≡ read o (inside k given) b rest
unfolding step
separator_taken o k given b t x rest is mark = token_taken o (assigned k given) (inside k given) b b t rest (ap (at_semicolon b k given t) (is ∙ ap kind_seen mark))

pub separator_refused : (o : OptionsView) (k : GroupKind) (given : List AssignmentView) (b : List GroupView) (t : TokenView) (x : TokenKind) (rest : Stream) → t.kind ≡ kind_seen x → (x ≡ kind.Semicolon → ⊥) → read_token o (assigned k given) b t rest ≡ Err (fault t.line Expected)
unfolding step
separator_refused o k given b t x rest is isnt = token_refused o (assigned k given) b t rest _ (ap (at_semicolon b k given t) is ∙ semicolon_no k given b t x isnt)

pub group_refused : (o : OptionsView) (b : List GroupView) (t : TokenView) (x : TokenKind) (rest : Stream) → t.kind ≡ kind_seen x → (x ≡ kind.Word → ⊥) → read_token o outside b t rest ≡ Err (fault t.line Expected)
unfolding step
group_refused o b t x rest is isnt = token_refused o outside b t rest _ (ap (at_group b t) is ∙ group_no b t x isnt)

pub group_taken : (o : OptionsView) (b : List GroupView) (t : TokenView) (x : TokenKind) (rest : Stream) (k : GroupKind) → t.kind ≡ kind_seen x → x ≡ kind.Word → group_named t.text ≡ Some k → read_token o outside b t rest ≡ read o (opening k) b rest
unfolding step
group_taken o b t x rest k is word named = token_taken o outside (opening k) b b t rest (ap (at_group b t) (is ∙ ap kind_seen word) ∙ ap (opened b t.line) named)

pub group_unknown : (o : OptionsView) (b : List GroupView) (t : TokenView) (x : TokenKind) (rest : Stream) → t.kind ≡ kind_seen x → x ≡ kind.Word → group_named t.text ≡ None → read_token o outside b t rest ≡ Err (fault t.line UnknownGroup)
unfolding step
group_unknown o b t x rest is word named = token_refused o outside b t rest _ (ap (at_group b t) (is ∙ ap kind_seen word) ∙ ap (opened b t.line) named)

pub attribute_read : (o : OptionsView) (k : GroupKind) (given : List AssignmentView) (b : List GroupView) (t : TokenView) (x : TokenKind) (rest : Stream) (r : Result Attribute InfoFault) → t.kind ≡ kind_seen x → x ≡ kind.Word → r ≡ attribute_at b k given t → Leads (read_token o (inside k given) b t rest) r (λ a. read o (valued k given a) b rest)
unfolding step
attribute_read o k given b t x rest (Ok a) is word found = token_taken o (inside k given) (valued k given a) b b t rest (ap (at_attribute b k given t) (is ∙ ap kind_seen word) ∙ ap (λ r. r >>= λ a. Ok (valued k given a, b)) (sym found))
attribute_read o k given b t x rest (Err e) is word found = token_refused o (inside k given) b t rest e (ap (at_attribute b k given t) (is ∙ ap kind_seen word) ∙ ap (λ r. r >>= λ a. Ok (valued k given a, b)) (sym found))

pub attribute_refused : (o : OptionsView) (k : GroupKind) (given : List AssignmentView) (b : List GroupView) (t : TokenView) (x : TokenKind) (rest : Stream) → t.kind ≡ kind_seen x → (x ≡ kind.Word → ⊥) → (x ≡ kind.CloseBrace → ⊥) → read_token o (inside k given) b t rest ≡ Err (fault t.line Expected)
unfolding step
attribute_refused o k given b t x rest is isnt other = token_refused o (inside k given) b t rest _ (ap (at_attribute b k given t) is ∙ attribute_no k given b t x isnt other)

close_read : (o : OptionsView) (k : GroupKind) (given : List AssignmentView) (b : List GroupView) (t : TokenView) (x : TokenKind) (rest : Stream) → t.kind ≡ kind_seen x → x ≡ kind.CloseBrace → step o (inside k given) b t ≡ closed_by b k given t.line (closing_fault b k given)
unfolding step
close_read o k given b t x rest is brace = ap (at_attribute b k given t) (is ∙ ap kind_seen brace)

-- the end of a group
pub close_grows : {X : Type 0} (o : OptionsView) (k : GroupKind) (given : List AssignmentView) (b now : List GroupView) (t : TokenView) (x : TokenKind) (rest : Stream) (r : Result X InfoFault) → t.kind ≡ kind_seen x → x ≡ kind.CloseBrace
    → Grows (at_end b k given t.line) r (λ v. Ok (closed, now)) → Grows (read_token o (inside k given) b t rest) r (λ v. read o closed now rest)
close_grows o k given b now t x rest (Ok v) is brace whole = token_taken o (inside k given) closed b now t rest (close_read o k given b t x rest is brace ∙ whole)
close_grows o k given b now t x rest (Err e) is brace (inl whole) = inl (token_refused o (inside k given) b t rest e (close_read o k given b t x rest is brace ∙ whole))
close_grows o k given b now t x rest (Err e) is brace (inr memory) = inr memory

pub value_taken : (o : OptionsView) (k : GroupKind) (given : List AssignmentView) (a : Attribute) (b : List GroupView) (t : TokenView) (rest : Stream) (v : ValueView) → value_at o b a t ≡ Ok v → read_token o (valued k given a) b t rest ≡ read o (assigned k (given ++ one a v ∷ [])) b rest
unfolding step
value_taken o k given a b t rest v is = token_taken o (valued k given a) (assigned k (given ++ one a v ∷ [])) b b t rest (ap (λ r. r >>= λ v. Ok (assigned k (given ++ one a v ∷ []), b)) is)

pub value_refused : (o : OptionsView) (k : GroupKind) (given : List AssignmentView) (a : Attribute) (b : List GroupView) (t : TokenView) (rest : Stream) (e : InfoFault) → value_at o b a t ≡ Err e → read_token o (valued k given a) b t rest ≡ Err e
unfolding step
value_refused o k given a b t rest e is = token_refused o (valued k given a) b t rest e (ap (λ r. r >>= λ v. Ok (assigned k (given ++ one a v ∷ []), b)) is)

-- ---- between two groups

pub between_end : (o : OptionsView) (after : Bool) (b : List GroupView) (old : Stream) (line : ℕ) → old ≡ ended line → read o (place_after after) b old ≡ Ok b
unfolding read read_from finish
between_end o true b old line is = ap (read o closed b) is
between_end o false b old line is = ap (read o outside b) is

pub between_fault : (o : OptionsView) (after : Bool) (b : List GroupView) (old : Stream) (e : InfoFault) → old ≡ refused e → read o (place_after after) b old ≡ Err e
unfolding read read_from finish
between_fault o true b old e is = ap (read o closed b) is
between_fault o false b old e is = ap (read o outside b) is

semicolon_passed : (o : OptionsView) (b : List GroupView) (t : TokenView) (rest : Stream) → is_semicolon t.kind ≡ true → read_token o closed b t rest ≡ read o outside b rest
unfolding step
semicolon_passed o b t rest is = token_taken o closed outside b b t rest (after_yes b t t.kind is)

group_next : (o : OptionsView) (b : List GroupView) (t : TokenView) (rest : Stream) → is_semicolon t.kind ≡ false → read_token o closed b t rest ≡ read_token o outside b t rest
unfolding read_token step
group_next o b t rest isnt = ap (λ r. r >>= λ x. read o x.0 x.1 rest) (after_no b t t.kind isnt)

pub between_separator : (o : OptionsView) (after : Bool) (b : List GroupView) (t : TokenView) (old new : Stream) → old ≡ with_token t new → after ≡ true → is_semicolon t.kind ≡ true → read o (place_after after) b old ≡ read o outside b new
between_separator o true b t old new is on mark = read_next o closed b t old new is ∙ semicolon_passed o b t new mark
between_separator o false b t old new is on mark = cc

pub between_group : (o : OptionsView) (after : Bool) (b : List GroupView) (t : TokenView) (old new : Stream) → old ≡ with_token t new → (after && is_semicolon t.kind) ≡ false → read o (place_after after) b old ≡ read_token o outside b t new
between_group o true b t old new is other = read_next o closed b t old new is ∙ group_next o b t new other
between_group o false b t old new is other = read_next o outside b t old new is

-- the `;` after a group, if it comes next
pub separated : (o : OptionsView) (b : List GroupView) (old new : Stream) (taken : Bool) → Takes semicolon old taken new → read o closed b old ≡ read o (place_after (not taken)) b new
separated o b old new true took = read_next o closed b took.0 old new took.2 ∙ semicolon_passed o b took.0 new (ap is_semicolon took.1)
separated o b old new false same = ap (λ (s : Stream). read o closed b s) (sym same)

-- a refusal of what is the same
pub fails_along : {A : Type 0} {r s : Result A InfoFault} {e : InfoFault} → r ≡ s → Fails e s → Fails e r
fails_along is (inl h) = inl (is ∙ h)
fails_along is (inr h) = inr h

pub grows_along : {X R : Type 0} {r s : Result R InfoFault} (x : Result X InfoFault) (on : X → Result R InfoFault) → r ≡ s → Grows s x on → Grows r x on
grows_along (Ok x) on is h = is ∙ h
grows_along (Err e) on is h = fails_along is h
