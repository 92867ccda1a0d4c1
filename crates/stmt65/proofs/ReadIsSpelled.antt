-- What is read is spelled so.
use Rattle.std.specs.Prelude.{◌++◌, ◌∷◌, ◌≡◌, IfSome, codes}
use Rattle.stmt65.proofs.Lemmas.{Bool, List, None, Option, Some, [], ap, append-nil, append_assoc, arith, cond, drop, false, inl, inr, length, refl, suc, sym, true, zero, ℕ, ◌∙◌}
use Rattle.stmt65.specs.Words.{Automatic, Define, Directive, IsDatum, IsItem, IsList, IsMinus, IsPlus, IsSpelling, IsValue, Item, Listing, Mark, Minus, NameValue, Number, Part, Spells, Text, Value, Word, Zero, constant_of, data_list, data_of, define, directive_named, directive_text, form_items, further_at, has_name_form, immediate_of, inner_at, is_define, is_mark, is_name, is_number_here, is_word_here, joined, less_one, line_at, mark, mark_datum, mnemonic_named, name, named_at, next_datum, next_value, number, number_in, operation_at, operation_items, other_at, prefix_items, quoted_name, reading_of, same, segment_of, set_cpu_of, string, tail_at, text_in, text_of, value, value_list, values_of, whole, word, word_datum, ◌>>=◌}
use Rattle.stmt65.specs.declared.source_line.AddressSize.TheVariants.{Absolute}
use Rattle.stmt65.specs.declared.source_line.Minus.TheVariants.{One as MinusOne}
use Rattle.stmt65.specs.Reading.{form_of, instruction_of, operation_of}
use Rattle.stmt65.proofs.Cases.{by_test, by_option, by_list, mark_is, define_is, word_is, number_is, number_here_is, mnemonic_is, directive_is}

-- ps begins with parts of which Is holds, and then come the parts rest
pub record Fronts (Is : List Part → Type 0) (ps rest : List Part) : Type 0 where
  pub front : List Part
  pub split : ps ≡ front ++ rest
  pub is : Is front

-- ---- what holds of what is read, step by step

-- of what follows something that was read
given : {A B : Type 0} (Q : B → Type 0) (o : Option A) (k : A → Option B) → ((x : A) → o ≡ Some x → IfSome (k x) Q) → IfSome (o >>= k) Q
given Q None k h = tt
given Q (Some x) k h = h x refl

-- of what follows something of which P holds
then : {A B : Type 0} (P : A → Type 0) (Q : B → Type 0) (o : Option A) (k : A → Option B) → IfSome o P → ((x : A) → P x → IfSome (k x) Q) → IfSome (o >>= k) Q
then P Q None k is h = tt
then P Q (Some x) k is h = h x is

-- of what is read if a test passes
tested : {A : Type 0} (Q : A → Type 0) (b : Bool) (o : Option A) → (b ≡ true → IfSome o Q) → IfSome (cond b o None) Q
tested Q true o h = h refl
tested Q false o h = tt

-- of what is read if nothing is left
ended : {A : Type 0} (Q : A → Type 0) (x : A) (ps : List Part) → (ps ≡ [] → Q x) → IfSome (whole x ps) Q
ended Q x [] h = h refl
ended Q x (p ∷ ps) h = tt

-- what holds of what is read, where something is read
pub at : {A : Type 0} (P : A → Type 0) (o : Option A) (x : A) → o ≡ Some x → IfSome o P → P x
at P o x e h = rw e at h

-- ---- items in front

at_mark : (b : ℕ) (is : List Item) (ps : List Part) → is_mark b ps ≡ true → Spells is (drop 1 ps) → Spells (mark b ∷ is) ps
unfolding Spells
at_mark b is ps h g = (Mark b ∷ [], drop 1 ps, mark_is b ps h, refl, g)

at_word : (text : List ℕ) (is : List Item) (ps : List Part) → is_word_here text ps ≡ true → Spells is (drop 1 ps) → Spells (word text ∷ is) ps
unfolding Spells
at_word text is ps h g = let w = word_is text ps h in (Word w.0 ∷ [], drop 1 ps, w.2, (w.0, w.1, refl), g)

at_define : (is : List Item) (ps : List Part) → is_define ps ≡ true → Spells is (drop 1 ps) → Spells (define ∷ is) ps
unfolding Spells
at_define is ps h g = (Define ∷ [], drop 1 ps, define_is ps h, refl, g)

at_value : (v : Value) (is : List Item) (ps rest : List Part) → Fronts (IsValue v) ps rest → Spells is rest → Spells (value v ∷ is) ps
unfolding Spells
at_value v is ps rest f g = (f.front, rest, f.split, f.is, g)

at_number : (is : List Item) (ps : List Part) (n : ℕ × List Part) → number_in ps ≡ Some n → Spells is n.1 → Spells (number n.0 ∷ is) ps
unfolding Spells
at_number is ps n h g = let t = number_is ps n h in (Number t.0 ∷ [], n.1, t.2, (t.0, t.1, refl), g)

word_front : (text : List ℕ) (is : List Item) (w : List ℕ) (ps : List Part) → same w text ≡ true → Spells is ps → Spells (word text ∷ is) (Word w ∷ ps)
unfolding Spells
word_front text is w ps h g = (Word w ∷ [], ps, refl, (w, h, refl), g)

name_front : (is : List Item) (w : List ℕ) (ps : List Part) → is_name w ≡ true → Spells is ps → Spells (name w ∷ is) (Word w ∷ ps)
unfolding Spells
name_front is w ps h g = (Word w ∷ [], ps, refl, (h, refl), g)

-- an item that is the last
pub last : (i : Item) (ps : List Part) → IsItem i ps → Spells (i ∷ []) ps
unfolding Spells
last i ps h = (ps, [], sym (append-nil ps), h, refl)

at_end : Spells [] []
unfolding Spells
at_end = refl

-- ---- values

-- a name, with what is added and what is taken
named_front : (w : List ℕ) (n : ℕ) (less : Minus) (added taken ps rest : List Part) → is_name w ≡ true → IsPlus n added → IsMinus less taken → ps ≡ Word w ∷ (added ++ (taken ++ rest)) → Fronts (IsValue (NameValue w n less)) ps rest
named_front w n less added taken ps rest named plus minus e = record { front = Word w ∷ (added ++ taken); split = e ∙ ap (λ (r : List Part). Word w ∷ r) (sym (append_assoc added taken rest)); is = (added, taken, refl, named, plus, minus) }

-- the parts after a name and what is added to it
less_read : (w : List ℕ) (n : ℕ) (plus ps rest : List Part) → is_name w ≡ true → IsPlus n plus → ps ≡ Word w ∷ (plus ++ rest) → IfSome (less_one Listing w n rest) (λ v. Fronts (IsValue v.0) ps v.1)
unfolding less_one
less_read w n plus ps rest named p e =
    by_test (is_mark 45 rest)
    (λ m. rw m (tested _ (is_number_here (codes "1") (drop 1 rest)) _ (λ one. named_front w n MinusOne plus (Mark 45 ∷ Number (codes "1") ∷ []) ps _ named p refl (cc (mark_is 45 rest m, number_here_is (codes "1") (drop 1 rest) one)))))
    (λ m. rw m (named_front w n Zero plus [] ps rest named p refl e))

named_read : (w : List ℕ) (ps : List Part) → is_name w ≡ true → IfSome (named_at Listing w ps) (λ v. Fronts (IsValue v.0) (Word w ∷ ps) v.1)
unfolding named_at
named_read w ps n =
    by_test (is_mark 43 ps)
    (λ plus. rw plus (given _ (number_in (drop 1 ps)) _ (λ k e. let t = number_is (drop 1 ps) k e in less_read w k.0 (Mark 43 ∷ Number t.0 ∷ []) (Word w ∷ ps) k.1 n (inr (t.0, t.1, refl)) (cc (mark_is 43 ps plus)))))
    (λ plus. rw plus (less_read w 0 [] (Word w ∷ ps) ps n (inl (refl, refl)) refl))

value_read : (ps : List Part) → IfSome (next_value Listing ps) (λ v. Fronts (IsValue v.0) ps v.1)
unfolding next_value
value_read (Number t ∷ ps) = record { front = Number t ∷ []; split = refl; is = (t, refl, refl) }
value_read (Word w ∷ ps) = tested _ (is_name w) _ (named_read w ps)
value_read _ = tt

value_then : {B : Type 0} (Q : B → Type 0) (ps : List Part) (k : Value × List Part → Option B) → ((v : Value × List Part) → Fronts (IsValue v.0) ps v.1 → IfSome (k v) Q) → IfSome (next_value Listing ps >>= k) Q
value_then Q ps k h = then (λ v. Fronts (IsValue v.0) ps v.1) Q (next_value Listing ps) k (value_read ps) h

datum_read : (ps : List Part) → IfSome (next_datum Listing ps) (λ x. Fronts (IsDatum x.0) ps x.1)
unfolding next_datum word_datum mark_datum
datum_read (Number t ∷ ps) = record { front = Number t ∷ []; split = refl; is = (t, refl, refl) }
datum_read (Text t ∷ ps) = record { front = Text t ∷ []; split = refl; is = refl }
datum_read _ = tt

-- ---- operands: what is read of ps after a value, if the items of ps stand behind those of this value in all

direct_read : (v : Value) (ps all : List Part) → ((is : List Item) → Spells is ps → Spells (value v ∷ is) all) → IfSome (tail_at Listing Automatic v ps) (λ f. Spells (form_items f) all)
unfolding tail_at
direct_read v ps all k = grind (arith, by_test, tested, ended, at_mark, at_word, at_value, at_end, value_then)

absolute_read : (v : Value) (ps all : List Part) → ((is : List Item) → Spells is ps → Spells (prefix_items true ++ value v ∷ is) all) → IfSome (tail_at Listing Absolute v ps) (λ f. Spells (form_items f) all)
unfolding tail_at
absolute_read v ps all k = grind (arith, by_test, tested, ended, at_mark, at_word, at_end)

inner_read : (v : Value) (ps all : List Part) → ((is : List Item) → Spells is ps → Spells (mark 40 ∷ value v ∷ is) all) → IfSome (inner_at v ps) (λ f. Spells (form_items f) all)
unfolding inner_at
inner_read v ps all k = grind (arith, by_test, tested, ended, at_mark, at_word, at_end)

form_read : (ps : List Part) → IfSome (form_of Listing ps) (λ f. Spells (form_items f) ps)
unfolding form_of immediate_of
form_read ps =
    by_test (is_mark 35 ps)
    (λ hash. rw hash (value_then _ (drop 1 ps) _ (λ v f. ended _ _ v.1 (λ end. at_mark 35 _ ps hash (at_value v.0 [] (drop 1 ps) v.1 f (rw end at_end))))))
    (λ hash. rw hash (by_test (is_mark 40 ps)
    (λ paren. rw paren (value_then _ (drop 1 ps) _ (λ v f. inner_read v.0 v.1 ps (λ is h. at_mark 40 _ ps paren (at_value v.0 is (drop 1 ps) v.1 f h)))))
    (λ paren. rw paren (by_test (is_word_here (codes "a") ps)
    (λ a. rw a (by_test (is_mark 58 (drop 1 ps))
    (λ colon. rw colon (value_then _ (drop 1 (drop 1 ps)) _ (λ v f. absolute_read v.0 v.1 ps (λ is h. at_word (codes "a") _ ps a (at_mark 58 _ (drop 1 ps) colon (at_value v.0 is (drop 1 (drop 1 ps)) v.1 f h))))))
    (λ colon. rw colon (ended _ _ (drop 1 ps) (λ end. at_word (codes "a") [] ps a (rw end at_end))))))
    (λ a. rw a (by_list ps
    (λ end. rw end at_end)
    (λ q qs e. rw e (value_then _ (q ∷ qs) _ (λ v f. direct_read v.0 v.1 (q ∷ qs) (λ is h. at_value v.0 is (q ∷ qs) v.1 f h))))))))))

-- ---- lists

joined_read : {A : Type 0} (Is : A → List Part → Type 0) (read : List Part → Option (A × List Part))
    → ((ps : List Part) → IfSome (read ps) (λ x. Fronts (Is x.0) ps x.1))
    → (most : ℕ) (ps : List Part) → IfSome (joined read most ps) (λ xs. IsList Is xs ps)
unfolding joined
joined_read {A = A} Is read h zero ps = tt
joined_read {A = A} Is read h (suc most) ps = then (λ x. Fronts (Is x.0) ps x.1) _ (read ps) _ (h ps) (λ x f.
    by_test (is_mark 44 x.1)
    (λ comma. rw comma (then (λ xs. IsList Is xs (drop 1 x.1)) _ (joined read most (drop 1 x.1)) _ (joined_read Is read h most (drop 1 x.1)) (λ xs g. more x.0 xs ps x.1 f comma g)))
    (λ comma. rw comma (ended _ _ x.1 (λ end. final x.0 ps x.1 f end))))
  where
    more : (x : A) (xs : List A) (ps rest : List Part) → Fronts (Is x) ps rest → is_mark 44 rest ≡ true → IsList Is xs (drop 1 rest) → IsList Is (x ∷ xs) ps
    more x [] ps rest f comma g = absurd g
    more x (y ∷ ys) ps rest f comma g = (f.front, drop 1 rest, f.split ∙ ap (λ (r : List Part). f.front ++ r) (mark_is 44 rest comma), f.is, g)

    final : (x : A) (ps rest : List Part) → Fronts (Is x) ps rest → rest ≡ [] → Is x ps
    final x ps rest f end = let e : ps ≡ f.front = f.split ∙ ap (λ (r : List Part). f.front ++ r) end ∙ append-nil f.front in rw e f.is

-- ---- operations and lines

text_read : (ps : List Part) → IfSome (text_in ps) (λ t. ps ≡ Text t ∷ [])
unfolding text_in
text_read (Text t ∷ ps) = ended _ t ps (λ end. rw end refl)
text_read _ = tt

data_read : (w : List ℕ) (ps : List Part) → same w (codes ".byte") ≡ true → IfSome (data_of (next_datum Listing) ps) (λ o. Spells (operation_items o) (Word w ∷ ps))
data_read w ps t = then (λ xs. IsList IsDatum xs ps) _ _ _ (joined_read IsDatum (next_datum Listing) datum_read (suc (length ps)) ps) (λ xs h. word_front (codes ".byte") _ w ps t (last (data_list xs) ps h))

values_read : (d : Directive) (w : List ℕ) (ps : List Part) → same w (directive_text d) ≡ true → IfSome (values_of Listing d ps) (λ o. Spells (operation_items o) (Word w ∷ ps))
values_read d w ps t = then (λ vs. IsList IsValue vs ps) _ _ _ (joined_read IsValue (next_value Listing) value_read (suc (length ps)) ps) (λ vs h. word_front (directive_text d) _ w ps t (last (value_list vs) ps h))

segment_read : (w : List ℕ) (ps : List Part) → same w (codes ".segment") ≡ true → IfSome (segment_of ps) (λ o. Spells (operation_items o) (Word w ∷ ps))
segment_read w ps t = then (λ name. ps ≡ Text name ∷ []) _ _ _ (text_read ps) (λ name e. tested _ (has_name_form name) _ (λ n. word_front (codes ".segment") _ w ps t (last (quoted_name name) ps (n, e))))

set_cpu_read : (w : List ℕ) (ps : List Part) → same w (codes ".setcpu") ≡ true → IfSome (set_cpu_of ps) (λ o. Spells (operation_items o) (Word w ∷ ps))
set_cpu_read w ps t = then (λ name. ps ≡ Text name ∷ []) _ _ _ (text_read ps) (λ name e. word_front (codes ".setcpu") _ w ps t (last (string name) ps e))

instruction_read : (w : List ℕ) (ps : List Part) → IfSome (instruction_of Listing w ps) (λ o. Spells (operation_items o) (Word w ∷ ps))
instruction_read w ps = given _ (mnemonic_named w) _ (λ m e. then (λ f. Spells (form_items f) ps) _ _ _ (form_read ps) (λ f h. word_front (text_of m) (form_items f) w ps (mnemonic_is w m e) h))

other_read : (w : List ℕ) (ps : List Part) → IfSome (other_at Listing w ps) (λ o. Spells (operation_items o) (Word w ∷ ps))
unfolding other_at further_at
other_read w ps = grind (arith, by_test, data_read, segment_read, ended, word_front, at_end, set_cpu_read, instruction_read)

operation_read : (w : List ℕ) (ps : List Part) → IfSome (operation_at Listing w ps) (λ o. Spells (operation_items o) (Word w ∷ ps))
unfolding operation_at
operation_read w ps = by_option (directive_named w) (λ d e. rw e (values_read d w ps (directive_is w d e))) (λ e. rw e (other_read w ps))

operation_of_read : (ps : List Part) → IfSome (operation_of Listing ps) (λ o. Spells (operation_items o) ps)
unfolding operation_of
operation_of_read [] = at_end
operation_of_read (Word w ∷ ps) = operation_read w ps
operation_of_read _ = tt

constant_read : (w : List ℕ) (ps : List Part) → is_name w ≡ true → is_define ps ≡ true → IfSome (constant_of w (drop 1 ps)) (λ r. IsSpelling r (Word w ∷ ps))
unfolding constant_of
constant_read w ps n d = grind (arith, by_test, tested, given, ended, name_front, at_define, at_mark, at_number, at_end)

line_read : (w : List ℕ) (ps : List Part) → IfSome (line_at Listing w ps) (λ r. IsSpelling r (Word w ∷ ps))
unfolding line_at
line_read w ps =
    by_test (is_mark 58 ps)
    (λ colon. rw colon (tested _ (is_name w) _ (λ n. then (λ o. Spells (operation_items o) (drop 1 ps)) _ _ _ (operation_of_read (drop 1 ps)) (λ o h. name_front _ w ps n (at_mark 58 _ ps colon h)))))
    (λ colon. rw colon (by_test (is_define ps)
    (λ d. rw d (tested _ (is_name w) _ (λ n. constant_read w ps n d)))
    (λ d. rw d (then (λ o. Spells (operation_items o) (Word w ∷ ps)) _ _ _ (operation_read w ps) (λ o h. h)))))

pub reading_read : (ps : List Part) → IfSome (reading_of Listing ps) (λ r. IsSpelling r ps)
unfolding reading_of
reading_read [] = at_end
reading_read (Word w ∷ ps) = line_read w ps
reading_read _ = tt
