-- The names of an accepted file: what holds of those that its groups say, and of all of them by address.
use Rattle.std.proofs.Common.{◌≡◌, ◌≢◌, ◌∙◌, ◌≤◌, ◌<◌, ◌+◌, ◌-◌, ◌*◌, ℕ, zero, suc, Bool, List, [], ◌∷◌, ◌++◌, true, ⊎_elim, ap, ap₂, append_assoc, arith, get_or, length, map, option_map, refl, subst, sym}
use Rattle.std.specs.Prelude.{All, AllPairs, IfSome, Option, Some, None, Ok, option_to_list, is_some, ◌↔◌}
use Rattle.std.specs.List.{Contains, find}
use Rattle.std.specs.Option.{unwrap_or}
use Rattle.std.proofs.lemmas.Bool.Decides.{eqb_tells, nat_tests}
use Rattle.std.proofs.lemmas.List.{append-nil, get_or_default, get_or_past}
use Rattle.std.proofs.lemmas.List.Elements.{All-cons, All-push, Contains-append_right}
use Rattle.std.proofs.lemmas.List.Folds.{list_any_at}
use Rattle.std.proofs.lemmas.List.Kept.{AllPairs-cons}
use Rattle.std.proofs.lemmas.List.Quantifiers.{all_pairs_push}
use Rattle.std.proofs.lemmas.Bool.{eq-eqb, eqb-true, false≢true}
use Rattle.std.proofs.lemmas.Nat.{div-mul-add, mod-mul-add}
use Rattle.std.proofs.lemmas.Slice.Eq.{bytes_eq-Decides}
use Rattle.std.specs.Str.{bytes_eq}
use Rattle.info65.specs.Words.{AreFormed, AreGiven, AreNames, AssignmentView, Given, GroupKind, GroupView, HasForm, IsComment, IsFoundAt, IsName, NameView, NamesGiven, NumbersView, RangeSpec, ValueView, a_comment, a_name, as_comment, as_name, as_number, by_address, closing_fault, comment_in, form_of, given_seen, is_at, label_in, label_sized, name_part, named_at, names_from, names_said, numbered, optional_name_fault, range_name, text_at, tokens_of, unless_empty, value_in}
use Rattle.info65.specs.Code.Numbers.{blank_page, number_at}
use Rattle.text65.specs.Names.{has_name_form}
use Rattle.info65.specs.Labels.{named}
use Rattle.info65.specs.declared.syntax.attribute.Attribute.TheVariants as attribute
use Rattle.info65.specs.declared.syntax.attribute.ValueForm.TheVariants as form
use Rattle.info65.specs.declared.syntax.attribute.GroupKind.TheVariants as kind
use Rattle.info65.proofs.Cases.{by_test, is_some_find, same_some}
use Rattle.info65.proofs.FormLemmas.{AreRead, accepted_read, found_formed, read_keeps, size_in}
use Rattle.info65.proofs.IndexLemmas.{IsNew, closes_label, found_is, names_more, new_address, new_text, no_fault, taken_is}
use Rattle.info65.proofs.RangeLemmas.{bounded_in, closes_range}

-- ---- by address

all_front : (P : NameView → Type 0) (o : Option NameView) (ys : List NameView) → ((x : NameView) → o ≡ Some x → P x) → All P ys → All P (option_to_list o ++ ys)
all_front P None ys p ps = ps
all_front P (Some x) ys p ps = All-cons P x ys (p x refl) ps

all_from : (P : NameView → Type 0) (f : ℕ → Option NameView) (a n : ℕ) → ((b : ℕ) (x : NameView) → a ≤ b → f b ≡ Some x → P x) → All P (names_from f a n)
unfolding names_from
all_from P f a zero h = λ k d l. absurd (omega (arith, l))
all_from P f a (suc n) h = all_front P (f a) (names_from f (a + 1) n) (λ x is. h a x (omega arith) is) (all_from P f (a + 1) n (λ b x low is. h b x (omega (arith, low)) is))

pairs_front : (R : NameView → NameView → Type 0) (o : Option NameView) (ys : List NameView) → ((x : NameView) → o ≡ Some x → All (R x) ys) → AllPairs R ys → AllPairs R (option_to_list o ++ ys)
pairs_front R None ys p ps = ps
pairs_front R (Some x) ys p ps = AllPairs-cons R x ys (p x refl) ps

pairs_from : (R : NameView → NameView → Type 0) (f : ℕ → Option NameView) → ((a b : ℕ) (x y : NameView) → a < b → f a ≡ Some x → f b ≡ Some y → R x y) → (a n : ℕ) → AllPairs R (names_from f a n)
unfolding names_from
pairs_from R f h a zero = λ i j d lt l. absurd (omega (arith, l))
pairs_from R f h a (suc n) = pairs_front R (f a) (names_from f (a + 1) n) (λ x is. all_from (R x) f (a + 1) n (λ b y low at. h a b x y (omega (arith, low)) is at)) (pairs_from R f h (a + 1) n)

-- ---- a name that is found

pub record Stage (names : List NameView) (x : NameView) : Type 0 where
  pub index : ℕ
  pub low : index < length names
  pub is : (d : NameView) → get_or names index d ≡ x

pub record Found (p : NameView → Bool) (names : List NameView) (x : NameView) : Type 0 where
  pub place : Stage names x
  pub passes : p x ≡ true

pub found_some : (p : NameView → Bool) (names : List NameView) (x : NameView) → find p names ≡ Some x → Found p names x
found_some p [] x is = absurd cc
found_some p (y ∷ ys) x is =
    by_test (p y)
    (λ hit. let at : ◌≡◌ {A = Option NameView} (Some y) (Some x) = rw hit at is in let same : y ≡ x = same_some at in record { place = record { index = 0; low = omega arith; is = λ d. same }; passes = ap p (sym same) ∙ hit })
    (λ miss. let r = found_some p ys x (rw miss at is) in record { place = record { index = suc r.place.index; low = omega (arith, r.place.low); is = λ d. r.place.is d }; passes = r.passes })

named_place : (names : List NameView) (a : ℕ) (x : NameView) → named_at names a ≡ Some x → Found (is_at a) names x
unfolding named_at
named_place names a x is = found_some (is_at a) names x is

address_of : (names : List NameView) (a : ℕ) (x : NameView) → named_at names a ≡ Some x → x.address ≡ a
address_of names a x is = eqb-true x.address a (named_place names a x is).passes

-- ---- page by page

names_last : (f : ℕ → Option NameView) (a n b : ℕ) → a + n ≡ b → names_from f a (n + 1) ≡ names_from f a n ++ option_to_list (f b)
unfolding names_from
names_last f a zero b at = let e : a ≡ b = omega (arith, at) in rw e (append-nil (option_to_list (f b)))
names_last f a (suc n) b at =
    let e : suc n + 1 ≡ suc (n + 1) = omega arith in
    let h : a + 1 + n ≡ b = omega (arith, at) in
    rw (e, names_last f (a + 1) n b h) (sym (append_assoc (option_to_list (f a)) (names_from f (a + 1) n) (option_to_list (f b))))

names_passed : (f : ℕ → Option NameView) (m n : ℕ) → ((b : ℕ) → m ≤ b → b < m + n → f b ≡ None) → names_from f 0 (m + n) ≡ names_from f 0 m
names_passed f m zero none = let e : m + 0 ≡ m = omega arith in ap (names_from f 0) e
names_passed f m (suc n) none =
    let e : m + suc n ≡ m + n + 1 = omega arith in
    let h : 0 + (m + n) ≡ m + n = omega arith in
    ap (names_from f 0) e ∙ names_last f 0 (m + n) (m + n) h ∙ ap (λ (o : Option NameView). names_from f 0 (m + n) ++ option_to_list o) (none (m + n) (omega arith) (omega arith))
    ∙ append-nil (names_from f 0 (m + n)) ∙ names_passed f m n (λ b low high. none b low (omega (arith, high)))

-- the names up to an address and those of the address
pub names_next : (items : List Given) (numbers : List NumbersView) (a : ℕ) (o : Option Given) → IsFoundAt (map given_seen items) numbers a → o ≡ numbered items (number_at numbers a)
    → names_from (named_at (map given_seen items)) 0 (a + 1) ≡ names_from (named_at (map given_seen items)) 0 a ++ option_to_list (option_map given_seen o)
names_next items numbers a o i is = grind (arith, names_last, found_is)

-- the number of an address stands at its place of its page
pub number_here : (numbers : List NumbersView) (p k : ℕ) → k < 256 → number_at numbers (p * 256 + k) ≡ get_or (get_or numbers p blank_page).cells k 0
number_here numbers p k low = rw (div-mul-add p 256 k low, mod-mul-add p 256 k low) refl

-- the addresses of a page after those that have a number add none
pub page_rest : (items : List Given) (numbers : List NumbersView) (p k : ℕ) → length (get_or numbers p blank_page).cells ≤ k → k ≤ 256
    → ((a : ℕ) → IsFoundAt (map given_seen items) numbers a)
    → names_from (named_at (map given_seen items)) 0 ((p + 1) * 256) ≡ names_from (named_at (map given_seen items)) 0 (p * 256 + k)
page_rest items numbers p k past low found =
    let e : (p + 1) * 256 ≡ p * 256 + k + (256 - k) = omega arith in
    rw e (names_passed (named_at (map given_seen items)) (p * 256 + k) (256 - k)
    (λ b from to.
    let page : b ≡ p * 256 + (b - p * 256) = omega (arith, from) in
    let none : number_at numbers b ≡ 0 = ap (number_at numbers) page ∙ number_here numbers p (b - p * 256) (omega (arith, from, to)) ∙ get_or_past (get_or numbers p blank_page).cells (b - p * 256) 0 (omega (arith, from, past)) in
    sym (found b).is ∙ ap (numbered (map given_seen items)) none))

-- ---- what holds of the names that groups say

-- names that are told apart by this are one name where it is the same
same_name : {K : Type 0} (key : NameView → K) (names : List NameView) → AllPairs (λ n m. key n ≢ key m) names → (n m : NameView) → Contains names n → Contains names m → key n ≡ key m → n ≡ m
same_name key names apart n m h k same =
    let there : get_or names k.0 n ≡ m = get_or_default names k.0 n m k.1 ∙ k.2 in
    grind (arith, h.1, h.2, k.1, there, same, apart h.0 k.0 n, apart k.0 h.0 n)

abbrev Rising : List NameView → Type 0
Rising names = AllPairs (λ n m. n.address < m.address) names

rises : (names : List NameView) → Rising (by_address names)
unfolding by_address
rises names = pairs_from (λ n m. n.address < m.address) (named_at names) (λ a b x y lt is at. omega (arith, address_of names a x is, address_of names b y at, lt)) 0 0x1_0000

-- sorted by address they are the names of a file
pub sorted_names : (names : List NameView) → AreGiven names → AreNames (by_address names)
unfolding by_address
sorted_names names g = record {
  each = all_from IsName (named_at names) 0 0x1_0000 (λ b x low is. let r = (named_place names b x is).place in subst IsName (r.is x) (g.each r.index x r.low));
  rising = rises names;
  distinct = pairs_from (λ n m. n.text ≢ m.text) (named_at names) (λ a b x y lt is at same.
      let p = (named_place names a x is).place in
      let q = (named_place names b y at).place in
      let e : x ≡ y = same_name (λ n. n.text) names g.texts x y (p.index, p.low, p.is x) (q.index, q.low, q.is y) same in
      omega (arith, address_of names a x is, address_of names b y at, lt, ap (λ (v : NameView). v.address) e)) 0 0x1_0000;
}

none_given : AreGiven []
none_given = grind arith

pub one_more : (names : List NameView) (n : NameView) → AreGiven names → IsName n → IsNew names n → AreGiven (names ++ n ∷ [])
one_more names n g is new = record {
  each = All-push IsName names n g.each is;
  texts = all_pairs_push (λ (x y : NameView). x.text ≢ y.text) names n g.texts (new_text names n new);
  addresses = all_pairs_push (λ (x y : NameView). x.address ≢ y.address) names n g.addresses (new_address names n new);
}

-- ---- group by group

-- a comment that is given is not empty and has the form of a comment
comment_is : (given : List AssignmentView) → AreFormed given → IfSome (comment_in given) IsComment
unfolding comment_in form_of
comment_is given f = formed (value_in attribute.Comment given) (found_formed attribute.Comment given f)
  where
    formed : (v : Option ValueView) → IfSome v (HasForm form.Comment) → IfSome (unless_empty (as_comment v)) IsComment
    formed (Some (a_comment [])) h = tt
    formed (Some (a_comment (b ∷ bs))) h = record { some = omega arith; form = h }
    formed (Some _) h = tt
    formed None h = tt

pub name_formed : (given : List AssignmentView) (t : List ℕ) → AreFormed given → as_name (value_in attribute.Name given) ≡ Some t → has_name_form t ≡ true
unfolding form_of
name_formed given t f is = formed (value_in attribute.Name given) (found_formed attribute.Name given f) is
  where
    formed : (v : Option ValueView) → IfSome v (HasForm form.Name) → as_name v ≡ Some t → has_name_form t ≡ true
    formed (Some (a_name u)) h e = let same : u ≡ t = cc in ap has_name_form (sym same) ∙ h
    formed (Some _) h e = absurd cc
    formed None h e = absurd cc

size_some : (given : List AssignmentView) → AreFormed given → 1 ≤ unwrap_or (as_number (value_in attribute.Size given)) 1
unfolding form_of
size_some given f = low (as_number (value_in attribute.Size given)) (size_in (value_in attribute.Size given) (found_formed attribute.Size given f))
  where
    low : (o : Option ℕ) → IfSome o (λ n. (1 ≤ n) × (n ≤ 0x1_0000)) → 1 ≤ unwrap_or o 1
    low (Some n) h = h.0
    low None h = omega arith

record IsLabel (given : List AssignmentView) (n : NameView) : Type 0 where
  text : as_name (value_in attribute.Name given) ≡ Some n.text
  size : n.size ≡ unwrap_or (as_number (value_in attribute.Size given)) 1
  room : n.address + n.size ≤ 0x1_0000
  comment : n.comment ≡ comment_in given

sized_is : (a : ℕ) (t : List ℕ) (size : ℕ) (c : Option (List ℕ)) (n : NameView) → label_sized a t size c ≡ Ok n → (n ≡ named a size c t) × (a + size ≤ 0x1_0000)
sized_is a t size c n is = (grind arith, grind (arith, nat_tests))

label_is : (given : List AssignmentView) (n : NameView) → label_in given ≡ Ok n → IsLabel given n
unfolding label_in
label_is given n is = grind (arith, sized_is)

record IsNamed (given : List AssignmentView) (r : RangeSpec) (n : NameView) : Type 0 where
  text : as_name (value_in attribute.Name given) ≡ Some n.text
  size : n.size ≡ 1
  address : n.address ≡ r.first
  comment : n.comment ≡ comment_in given

named_is : (given : List AssignmentView) (r : RangeSpec) (n : NameView) → range_name given r ≡ Some n → IsNamed given r n
unfolding range_name
named_is given r n is = grind (arith, option_map)

given_optional : (names : List NameView) (given : List AssignmentView) (r : RangeSpec) → AreFormed given → r.first ≤ 0xFFFF → AreGiven names → (n : Option NameView) → range_name given r ≡ n → optional_name_fault names n ≡ None → AreGiven (names ++ option_to_list n)
given_optional names given r f low g None is fine = rw (append-nil names) g
given_optional names given r f low g (Some n) is fine =
    let new = no_fault names n fine in
    let x = named_is given r n is in
    one_more names n g (record { sized = omega (arith, x.size); room = omega (arith, x.size, x.address, low); form = name_formed given n.text f x.text; free = new.free; comment = rw x.comment (comment_is given f) }) new

given_more : (before : List GroupView) (k : GroupKind) (given : List AssignmentView) → AreFormed given → closing_fault before k given ≡ None → AreGiven (names_said before) → AreGiven (names_said before ++ name_part (record { kind = k; given = given }))
given_more before kind.Range given f h g =
    let c = closes_range before given h in
    let b = bounded_in given c.range c.is in
    rw c.is (given_optional (names_said before) given c.range f (omega (arith, b.low, b.ordered)) g (range_name given c.range) refl c.named)
given_more before kind.Label given f h g =
    let c = closes_label before given h in
    let new = no_fault (names_said before) c.name c.fine in
    let x = label_is given c.name c.is in
    rw c.is (one_more (names_said before) c.name g (record { sized = rw x.size (size_some given f); room = x.room; form = name_formed given c.name.text f x.text; free = new.free; comment = rw x.comment (comment_is given f) }) new)
given_more before _ given f h g = rw (append-nil (names_said before)) g

none_said : AreGiven (names_said [])
unfolding names_said
none_said = none_given

pub read_given : (groups : List GroupView) → AreRead groups → AreGiven (names_said groups)
read_given groups r = read_keeps (λ gs. AreGiven (names_said gs)) (λ before k given h f g. rw (names_more before (record { kind = k; given = given })) (given_more before k given f h.closes g)) none_said groups r

-- ---- by address there are exactly these names

in_front : (o : Option NameView) (ys : List NameView) (x : NameView) → o ≡ Some x → Contains (option_to_list o ++ ys) x
in_front (Some y) ys x is = let same : y ≡ x = cc in (0, omega arith, same)
in_front None ys x is = absurd cc

in_from : (f : ℕ → Option NameView) (a n b : ℕ) (x : NameView) → a ≤ b → b < a + n → f b ≡ Some x → Contains (names_from f a n) x
unfolding names_from
in_from f a zero b x low high is = absurd (omega arith)
in_from f a (suc n) b x low high is =
    ⊎_elim
    (λ same. in_front (f a) (names_from f (a + 1) n) x (ap f (sym same.1) ∙ is))
    (λ other. Contains-append_right (option_to_list (f a)) (names_from f (a + 1) n) x (in_from f (a + 1) n b x (omega (arith, other.1)) (omega arith) is))
    (eqb_tells b a)

-- the name that is found at the address of a name is that name
found_itself : (names : List NameView) (n : NameView) → AllPairs (λ x y. x.address ≢ y.address) names → Contains names n → named_at names n.address ≡ Some n
found_itself names n apart h = itself (named_at names n.address) refl
  where
    itself : (o : Option NameView) → named_at names n.address ≡ o → o ≡ Some n
    itself None is = absurd (false≢true (sym (taken_is names n.address ∙ ap is_some is) ∙ list_any_at (is_at n.address) names h.0 n h.1 (rw h.2 (eq-eqb n.address n.address refl))))
    itself (Some x) is =
        let p = (named_place names n.address x is).place in
        ap (λ (v : NameView). Some v) (same_name (λ v. v.address) names apart x n (p.index, p.low, p.is x) h (address_of names n.address x is))

exactly_given : (names : List NameView) → AreGiven names → (n : NameView) → Contains (by_address names) n ↔ Contains names n
unfolding by_address
exactly_given names g n = (
  λ h. subst (Contains names) h.2 (all_from (Contains names) (named_at names) 0 0x1_0000 (λ b x low is. let r = (named_place names b x is).place in (r.index, r.low, r.is x)) h.0 n h.1),
  λ h.
      let is = subst IsName h.2 (g.each h.0 n h.1) in
      in_from (named_at names) 0 0x1_0000 n.address n (omega arith) (omega (arith, is.sized, is.room)) (found_itself names n g.addresses h),
)

-- ---- lists that rise by address

rising_tail : (x : NameView) (xs : List NameView) → Rising (x ∷ xs) → Rising xs
rising_tail x xs r = λ i j d lt l. r (suc i) (suc j) d (omega arith) (omega arith)

comes_after : (x : NameView) (xs : List NameView) (n : NameView) → Rising (x ∷ xs) → Contains xs n → x.address < n.address
comes_after x xs n r h = let e = ap (λ (v : NameView). v.address) h.2 in let lt = r 0 (suc h.0) n (omega arith) (omega (arith, h.1)) in omega (arith, e, lt)

first_or : {P : Type 0} (x : NameView) (xs : List NameView) (n : NameView) → Contains (x ∷ xs) n → (x ≡ n → P) → (Contains xs n → P) → P
first_or {P} x xs n h first rest = grind (arith, get_or)

-- those with the same names are one list
rising_same : (xs ys : List NameView) → Rising xs → Rising ys → ((n : NameView) → Contains xs n → Contains ys n) → ((n : NameView) → Contains ys n → Contains xs n) → xs ≡ ys
rising_same [] [] r s to back = refl
rising_same [] (y ∷ ys) r s to back = absurd (omega (arith, (back y (0, omega arith, refl)).1))
rising_same (x ∷ xs) [] r s to back = absurd (omega (arith, (to x (0, omega arith, refl)).1))
rising_same (x ∷ xs) (y ∷ ys) r s to back =
    let same : x ≡ y = first_or y ys x (to x (0, omega arith, refl)) (λ e. sym e) (λ late. first_or x xs y (back y (0, omega arith, refl)) (λ e. e) (λ early. absurd (omega (arith, comes_after y ys x s late, comes_after x xs y r early)))) in
    let address = ap (λ (v : NameView). v.address) same in
    ap₂ (λ (v : NameView) (vs : List NameView). v ∷ vs) same (rising_same xs ys (rising_tail x xs r) (rising_tail y ys s)
    (λ n h. first_or y ys n (to n (suc h.0, omega (arith, h.1), h.2)) (λ e. absurd (omega (arith, comes_after x xs n r h, address, ap (λ (v : NameView). v.address) e))) (λ k. k))
    (λ n h. first_or x xs n (back n (suc h.0, omega (arith, h.1), h.2)) (λ e. absurd (omega (arith, comes_after y ys n s h, address, ap (λ (v : NameView). v.address) e))) (λ k. k)))

pub given_names : (names : List NameView) → AreNames names → AreGiven names
given_names names are = record { each = are.each; texts = are.distinct; addresses = λ i j d lt low same. omega (arith, are.rising i j d lt low, same) }

-- the names of a file are by address
pub names_sorted : (names : List NameView) → AreNames names → by_address names ≡ names
names_sorted names are =
    let g = given_names names are in
    rising_same (by_address names) names (rises names) are.rising (λ n. (exactly_given names g n).0) (λ n. (exactly_given names g n).1)

pub names_given : NamesGiven
names_given o bytes info i =
    let given = read_given i.groups (accepted_read o (tokens_of 1 bytes).tokens i.groups i.accepts) in
    rw i.says (sorted_names (names_said i.groups) given, exactly_given (names_said i.groups) given)

-- ---- the same names in another order

some_found : (p : NameView → Bool) (names : List NameView) (n : NameView) → Contains names n → p n ≡ true → is_some (find p names) ≡ true
some_found p names n h hit = sym (is_some_find p names) ∙ list_any_at p names h.0 n h.1 (ap p h.2 ∙ hit)

-- what only one name can be is found in any order
find_alike : (p : NameView → Bool) (names others : List NameView) → ((n : NameView) → Contains others n ↔ Contains names n) → ((n m : NameView) → Contains names n → Contains names m → p n ≡ true → p m ≡ true → n ≡ m) → find p others ≡ find p names
find_alike p names others same once = by_found (find p names) refl (find p others) refl
  where
    at : (xs : List NameView) (x : NameView) → Found p xs x → Contains xs x
    at xs x f = (f.place.index, f.place.low, f.place.is x)

    by_found : (o : Option NameView) → find p names ≡ o → (q : Option NameView) → find p others ≡ q → q ≡ o
    by_found None e None f = refl
    by_found (Some x) e (Some y) f =
        let a = found_some p names x e in
        let b = found_some p others y f in
        ap (λ (v : NameView). Some v) (once y x ((same y).0 (at others y b)) (at names x a) b.passes a.passes)
    by_found None e (Some y) f =
        let b = found_some p others y f in
        absurd (false≢true (sym (ap is_some e) ∙ some_found p names y ((same y).0 (at others y b)) b.passes))
    by_found (Some x) e None f =
        let a = found_some p names x e in
        absurd (false≢true (sym (ap is_some f) ∙ some_found p others x ((same x).1 (at names x a)) a.passes))

pub named_alike : (names : List NameView) → AreGiven names → (a : ℕ) → named_at (by_address names) a ≡ named_at names a
unfolding named_at
named_alike names g a = find_alike (is_at a) names (by_address names) (exactly_given names g) (λ n m h k p q. same_name (λ x. x.address) names g.addresses n m h k (eqb-true n.address a p ∙ sym (eqb-true m.address a q)))

pub text_alike : (names : List NameView) → AreGiven names → (t : List ℕ) → text_at (by_address names) t ≡ text_at names t
text_alike names g t = find_alike (λ n. bytes_eq t n.text) names (by_address names) (exactly_given names g) (λ n m h k p q. same_name (λ x. x.text) names g.texts n m h k (sym ((bytes_eq-Decides t n.text).0 p) ∙ (bytes_eq-Decides t m.text).0 q))
