-- The names that the lines of an include file add.
use Rattle.std.proofs.Common.{◌≡◌, ◌+◌, ◌≤◌, ◌++◌, ℕ, Bool, List, [], ◌∷◌, ap, arith, false, length, refl, subst, true}
use Rattle.std.specs.Prelude.{Err, None, Ok, Option, Result, Some, nat_lt, option_map, option_to_list}
use Rattle.std.proofs.lemmas.Bool.Decides.{nat_tests}
use Rattle.std.proofs.lemmas.List.{append-nil}
use Rattle.std.specs.List.{list_all}
use Rattle.text65.specs.Names.{has_name_form, is_blank}
use Rattle.info65.specs.Words.{AreGiven, BadInclude, IncludeView, InfoFault, InfoFaultKind, IsName, NameView, address_written, after_sign, assignment_in, before_sign, is_identifier, line_adds, line_in, name_adds, name_fault, names_with, optional_adds, or_bad, plain_name, trimmed, unless_ignored, without_comment}
use Rattle.info65.specs.Includes.{as_address}
use Rattle.info65.proofs.Cases.{by_result, by_test, same_ok}
use Rattle.info65.proofs.IndexLemmas.{no_fault}
use Rattle.info65.proofs.NamesLemmas.{one_more}

abbrev Added : Type 0
Added = Result (Option NameView) InfoFaultKind

-- a name that a line adds to these names
pub record Joins (names : List NameView) (n : NameView) : Type 0 where
  pub fine : name_fault names n ≡ None
  pub is : IsName n

-- a name adds itself, if it is short and has no fault
record AddsItself (names : List NameView) (m n : NameView) : Type 0 where
  same : m ≡ n
  short : nat_lt 80 (length m.text) ≡ false
  fine : name_fault names m ≡ None

adds_itself : (names : List NameView) (m n : NameView) → name_adds names m ≡ Ok (Some n) → AddsItself names m n
unfolding name_adds name_fault
adds_itself names m n h = record { same = grind arith; short = grind arith; fine = grind arith }

identified : (text : List ℕ) → is_identifier text ≡ true → nat_lt 80 (length text) ≡ false → has_name_form text ≡ true
unfolding is_identifier has_name_form
identified [] h short = absurd cc
identified (b ∷ bs) h short = grind (arith, nat_tests)

-- a name that a line says: its form, its address, and that nothing else is said of it
record IsPlain (n : NameView) : Type 0 where
  form : is_identifier n.text ≡ true
  low : n.address ≤ 0xFFFF
  plain : n ≡ plain_name n.text n.address

address_low : (o : Option ℕ) (a : ℕ) → as_address o ≡ Some a → a ≤ 0xFFFF
address_low None a is = absurd cc
address_low (Some n) a is = grind (arith, nat_tests)

written_low : (value : List ℕ) (a : ℕ) → address_written value ≡ Some a → a ≤ 0xFFFF
unfolding address_written
written_low [] a is = absurd cc
written_low (b ∷ bs) a is = grind (arith, address_low)

addressed : (text : List ℕ) (n : NameView) (o : Option ℕ) → is_identifier text ≡ true → ((a : ℕ) → o ≡ Some a → a ≤ 0xFFFF) → option_map (plain_name text) o ≡ Some n → IsPlain n
addressed text n None form low is = absurd cc
addressed text n (Some a) form low is = let same : n ≡ plain_name text a = cc in rw same (record { form = form; low = low a refl; plain = refl })

assigned : (text : List ℕ) (n : NameView) → or_bad (assignment_in text) ≡ Ok (Some n) → IsPlain n
unfolding assignment_in
assigned text n is =
    let name = trimmed (before_sign text) in
    let value = trimmed (after_sign text) in
    by_test (is_identifier name)
    (λ form. addressed name n (address_written value) form (written_low value) (not_bad (option_map (plain_name name) (address_written value)) n (rw form at is)))
    (λ miss. let wrong : ◌≡◌ {A = Added} (Err BadInclude) (Ok (Some n)) = rw miss at is in absurd cc)
  where
    not_bad : (o : Option NameView) (m : NameView) → or_bad o ≡ Ok (Some m) → o ≡ Some m
    not_bad None m e = absurd cc
    not_bad (Some k) m e = cc

said_plain : (c : ℕ) (line : List ℕ) (n : NameView) → line_in c line ≡ Ok (Some n) → IsPlain n
unfolding line_in
said_plain c line n is =
    by_test (list_all is_blank (without_comment c line))
    (λ hit. let wrong : ◌≡◌ {A = Added} (Ok None) (Ok (Some n)) = rw hit at is in absurd cc)
    (λ miss. assigned (without_comment c line) n (rw miss at is))

joins : (c : ℕ) (names : List NameView) (line : List ℕ) (n : NameView) → line_in c line ≡ Ok (Some n) → nat_lt 80 (length n.text) ≡ false → name_fault names n ≡ None → Joins names n
joins c names line n says short fine =
    let p = said_plain c line n says in
    let size = ap (λ (x : NameView). x.size) p.plain in
    record {
      fine = fine;
      is = record {
        sized = omega (arith, size);
        room = omega (arith, size, p.low);
        form = identified n.text p.form short;
        free = (no_fault names n fine).free;
        comment = rw (ap (λ (x : NameView). x.comment) p.plain) tt;
      };
    }

said_joins : (c : ℕ) (names : List NameView) (line : List ℕ) (n : NameView) (r : Added) → line_in c line ≡ r → optional_adds names r ≡ Ok (Some n) → Joins names n
said_joins c names line n (Err f) is h = absurd cc
said_joins c names line n (Ok None) is h = absurd cc
said_joins c names line n (Ok (Some m)) is h = let a = adds_itself names m n h in subst (Joins names) a.same (joins c names line m is a.short a.fine)

heeded : (ignore : Bool) (k : ℕ) (r : Added) (n : NameView) → unless_ignored ignore k r ≡ Ok (Some n) → r ≡ Ok (Some n)
heeded true k (Ok o) n h = let same : o ≡ Some n = cc in ap (λ (x : Option NameView). Ok x) same
heeded false k (Ok o) n h = let same : o ≡ Some n = cc in ap (λ (x : Option NameView). Ok x) same
heeded true k (Err f) n h = absurd cc
heeded false k (Err f) n h = absurd cc

pub line_joins : (i : IncludeView) (k : ℕ) (names : List NameView) (l : List ℕ) (n : NameView) → line_adds i k names l ≡ Ok (Some n) → Joins names n
unfolding line_adds
line_joins i k names l n h =
    said_joins i.comment_start names l n (line_in i.comment_start l) refl (heeded i.ignore_unknown k (optional_adds names (line_in i.comment_start l)) n h)

-- what a line adds keeps names apart
more_given : (i : IncludeView) (k : ℕ) (names : List NameView) (l : List ℕ) (o : Option NameView) → AreGiven names → line_adds i k names l ≡ Ok o → AreGiven (names ++ option_to_list o)
more_given i k names l None g is = rw (append-nil names) g
more_given i k names l (Some n) g is = let j = line_joins i k names l n is in one_more names n g j.is (no_fault names n j.fine)

pub all_given : (i : IncludeView) (k : ℕ) (names : List NameView) (ls : List (List ℕ)) (all : List NameView) → AreGiven names → names_with i k names ls ≡ Ok all → AreGiven all
unfolding names_with
all_given i k names [] all g h = subst AreGiven (same_ok h) g
all_given i k names (l ∷ ls) all g h =
    by_result (line_adds i k names l)
    (λ o is. all_given i (k + 1) (names ++ option_to_list o) ls all (more_given i k names l o g is) (rw is at h))
    (λ e is. let wrong : ◌≡◌ {A = Result (List NameView) InfoFault} (Err e) (Ok all) = rw is at h in absurd cc)
