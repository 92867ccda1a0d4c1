-- The names of an include file.
use Rattle.std.proofs.Common.{◌≡◌, ◌∙◌, ◌+◌, ◌<◌, ℕ, List, [], ◌∷◌, ◌++◌, false, ap, arith, get_or, inl, inr, length, option_map, refl, subst, sym, take}
use Rattle.std.specs.Prelude.{Option, None, Result, Ok, Err, nat_lt, option_to_list}
use Rattle.std.specs.List.{list_any}
use Rattle.std.proofs.lemmas.List.{get_or_default, get_or-take, length-take-le}
use Rattle.std.proofs.lemmas.List.Folds.{find-append, list_any-append}
use Rattle.text65.specs.Lines.{text_lines}
use Rattle.info65.specs.Words.{AreGiven, AreNames, Fails, Given, IncludeView, InfoFault, InfoFaultKind, InfoView, NameView, Sees, blank_include, blank_name, by_address, given_seen, included, is_elsewhere, line_adds, line_in, name_adds, name_at, name_fault, name_result_seen, named_at, names_included, names_with, optional_adds, unless_ignored, with_added, with_names, ◌>>=◌}
use Rattle.info65.proofs.Cases.{by_result}
use Rattle.info65.proofs.IndexLemmas.{elsewhere_by, elsewhere_is, is_fine, names_same, taken_is}
use Rattle.info65.proofs.NamesLemmas.{named_alike, sorted_names, text_alike}
use Rattle.std.proofs.lemmas.Bool.Decides.{nat_tests}

abbrev Added : Type 0
Added = Result (Option NameView) InfoFaultKind

-- ---- what the code returns

pub line_seen : (i : IncludeView) (line : ℕ) (names : List NameView) (text : List ℕ) (said added : Result (Option Given) InfoFaultKind) (r : Result (Option Given) InfoFault) → Sees (option_map given_seen) said (line_in i.comment_start text) → Sees (option_map given_seen) added (optional_adds names (name_result_seen said)) → Sees (option_map given_seen) r (unless_ignored i.ignore_unknown line (name_result_seen added))
    → Sees (option_map given_seen) r (line_adds i line names text)
unfolding line_adds
line_seen i line names text said added r a b c = grind arith

-- ---- the names before the file

-- a name is new to those before it
pub fresh : (names : List NameView) (i : ℕ) → AreNames names → i < length names → name_fault (take i names) (name_at names i) ≡ None
fresh names i are low =
    is_fine (take i names) (name_at names i) (are.each i blank_name low).free (λ k d l.
    let below : k < i = omega (arith, l, length-take-le i names (omega (arith, low))) in
    let first : get_or (take i names) k d ≡ name_at names k = get_or-take i names k d below ∙ get_or_default names k d blank_name (omega (arith, below, low)) in
    rw first (are.distinct k i blank_name below low, λ same. omega (arith, are.rising k i blank_name below low, same)))

-- ---- line by line

-- the names with what a line adds are those after which the next lines are read
pub next_lines : (i : IncludeView) (number : ℕ) (names : List NameView) (rest l : List ℕ) (ls : List (List ℕ)) (r : Result (List NameView) InfoFault) → text_lines rest ≡ l ∷ ls → with_added names (line_adds i number names l) ≡ r
    → names_with i number names (text_lines rest) ≡ (r >>= λ more. names_with i (number + 1) more ls)
unfolding names_with
next_lines i number names rest l ls r is adds = grind arith

pub last_line : (i : IncludeView) (number : ℕ) (all : List NameView) (rest : List ℕ) → text_lines rest ≡ [] → names_with i number all (text_lines rest) ≡ Ok all
unfolding names_with
last_line i number all rest is = rw is refl

pub refused : (i : IncludeView) (names : List NameView) (bytes : List ℕ) (e : InfoFault) → nat_lt 1_048_576 (length bytes) ≡ false → names_with i 1 names (text_lines bytes) ≡ Err e → names_included i names bytes ≡ Err e
unfolding names_included
refused i names bytes e small is = rw (small, is) refl

pub accepted : (i : IncludeView) (names all : List NameView) (bytes : List ℕ) → nat_lt 1_048_576 (length bytes) ≡ false → names_with i 1 names (text_lines bytes) ≡ Ok all → names_included i names bytes ≡ Ok (by_address all)
unfolding names_included
accepted i names all bytes small is = rw (small, is) refl

-- ---- the information

-- the include file at a place of an information that is seen as this one
pub file_at : (i j : InfoView) (files : List IncludeView) (index : ℕ) (file : IncludeView) → i ≡ j → index < length j.includes → file ≡ get_or files index file → files ≡ i.includes → file ≡ get_or i.includes index blank_include
file_at i j files index file seen low at are = grind (arith, get_or_default)

pub included_names : (i : InfoView) (index : ℕ) (file : IncludeView) (bytes : List ℕ) (all : List NameView) → file ≡ get_or i.includes index blank_include → names_included file i.names bytes ≡ Ok all → included i index bytes ≡ Ok (with_names i all)
unfolding included
included_names i index file bytes all is h = rw (← is) (rw h refl)

pub included_fault : (i : InfoView) (index : ℕ) (file : IncludeView) (bytes : List ℕ) (e : InfoFault) → file ≡ get_or i.includes index blank_include → Fails e (names_included file i.names bytes) → Fails e (included i index bytes)
unfolding included
included_fault i index file bytes e is (inl h) = inl (rw (← is) (rw h refl))
included_fault i index file bytes e is (inr m) = inr m

pub included_same : (i j : InfoView) (index : ℕ) (bytes : List ℕ) (r : Result InfoView InfoFault) → i ≡ j → included i index bytes ≡ r → included j index bytes ≡ r
included_same i j index bytes r is h = ap (λ (x : InfoView). included x index bytes) (sym is) ∙ h

pub included_fails : (i j : InfoView) (index : ℕ) (bytes : List ℕ) (e : InfoFault) → i ≡ j → Fails e (included i index bytes) → Fails e (included j index bytes)
included_fails i j index bytes e is h = subst (λ (x : InfoView). Fails e (included x index bytes)) is h

-- an include file adds names alone
included_rest : (i j : InfoView) (index : ℕ) (bytes : List ℕ) → included i index bytes ≡ Ok j → j ≡ with_names i j.names
unfolding included
included_rest i j index bytes h = grind (arith, get_or)

pub read_included : (i opened read new : InfoView) (names : List NameView) (index : ℕ) (bytes : List ℕ) → i ≡ opened → included opened index bytes ≡ Ok read → read.names ≡ names → new ≡ with_names i names → included i index bytes ≡ Ok new
read_included i opened read new names index bytes is reads are put = grind (arith, included_rest)

-- ---- the names before a file in another order

-- names that are found alike
record Alike (xs ys : List NameView) : Type 0 where
  named : (a : ℕ) → named_at xs a ≡ named_at ys a
  elsewhere : (n : NameView) → list_any (is_elsewhere n) xs ≡ list_any (is_elsewhere n) ys

adds_alike : (xs ys : List NameView) (n : NameView) → Alike xs ys → name_adds xs n ≡ name_adds ys n
unfolding name_adds
adds_alike xs ys n a = grind (arith, taken_is)

line_alike : (i : IncludeView) (line : ℕ) (xs ys : List NameView) (text : List ℕ) → Alike xs ys → line_adds i line xs text ≡ line_adds i line ys text
unfolding line_adds
line_alike i line xs ys text a = grind (arith, adds_alike)

more_alike : (xs ys zs : List NameView) → Alike xs ys → Alike (xs ++ zs) (ys ++ zs)
unfolding named_at
more_alike xs ys zs a = grind (arith, find-append, list_any-append)

same_address : (xs ys : List NameView) → Alike xs ys → by_address xs ≡ by_address ys
unfolding by_address
same_address xs ys a = names_same (named_at xs) (named_at ys) a.named 0 0x1_0000

lines_alike : (i : IncludeView) (line : ℕ) (xs ys : List NameView) (ls : List (List ℕ)) → Alike xs ys → (names_with i line xs ls >>= λ all. Ok (by_address all)) ≡ (names_with i line ys ls >>= λ all. Ok (by_address all))
unfolding names_with
lines_alike i line xs ys [] a = ap (λ (l : List NameView). Ok l) (same_address xs ys a)
lines_alike i line xs ys (l ∷ ls) a =
    by_result (line_adds i line ys l)
    (λ o e. rw (line_alike i line xs ys l a, e) (lines_alike i (line + 1) (xs ++ option_to_list o) (ys ++ option_to_list o) ls (more_alike xs ys (option_to_list o) a)))
    (λ f e. rw (line_alike i line xs ys l a, e) refl)

alike : (names : List NameView) → AreGiven names → Alike (by_address names) names
alike names g = record {
  named = named_alike names g;
  elsewhere = λ n.
      elsewhere_is (by_address names) n (sorted_names names g).distinct
      ∙ ap (λ (o : Option NameView). elsewhere_by n.address (option_map (λ (m : NameView). m.address) o)) (text_alike names g n.text)
      ∙ sym (elsewhere_is names n g.texts);
}

-- a file adds the same names to those that are sorted by address
pub file_sorted : (i : IncludeView) (names : List NameView) (bytes : List ℕ) → AreGiven names → names_included i (by_address names) bytes ≡ names_included i names bytes
unfolding names_included
file_sorted i names bytes g = grind (arith, lines_alike, alike, nat_tests)
