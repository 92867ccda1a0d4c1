-- What is known of an include file: how long its name is, and that adding its names keeps the include files.
use Rattle.std.proofs.Common.{◌≡◌, ◌<◌, ◌≤◌, ℕ, List, true, ap, get_or, length, arith, subst, sym, []}
use Rattle.std.proofs.lemmas.Bool.Decides.{nat_tests}
use Rattle.std.specs.Prelude.{Ok, Result}
use Rattle.info65.specs.Words.{AreIncludes, IncludeView, InfoView, NameView, included, is_file_name, with_names}
use Rattle.da65.specs.Words.{FileView, with_file}

short_of : (name : List ℕ) → is_file_name name ≡ true → length name ≤ 255
unfolding is_file_name
short_of name h = grind (arith, nat_tests)

-- the file name of an include file has at most 255 bytes
pub short_name : (xs : List IncludeView) (k : ℕ) (x : IncludeView) → AreIncludes xs → k < length xs → x ≡ get_or xs k x → length x.file ≤ 255
short_name xs k x are h e = short_of x.file (subst (λ (y : IncludeView). is_file_name y.file ≡ true) (sym e) (are.each k x h))

pub ok_same : {X E : Type 0} {x y : X} → ◌≡◌ {A = Result X E} (Ok x) (Ok y) → x ≡ y
ok_same e = cc

-- two that differ in names alone have the same include files
pub same_files : (i j : InfoView) → ((names : List NameView) → with_names j names ≡ with_names i names) → j.includes ≡ i.includes
same_files i j same = ap (λ (x : InfoView). x.includes) (same [])

pub long_as : (j i : InfoView) (files : List IncludeView) (k : ℕ) → ((names : List NameView) → with_names j names ≡ with_names i names) → files ≡ i.includes → k < length files → k < length j.includes
long_as j i files k same are low = omega (arith, low, ap (λ (xs : List IncludeView). length xs) are, ap (λ (xs : List IncludeView). length xs) (same_files i j same))

-- an include file adds names alone
pub file_rest : (fs : List FileView) (k : ℕ) (x : IncludeView) (i j : InfoView) → with_file fs k x i ≡ Ok j → (names : List NameView) → with_names j names ≡ with_names i names
unfolding included
file_rest fs k x i j e names = grind arith
