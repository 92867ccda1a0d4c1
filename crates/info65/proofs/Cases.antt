-- Going by what a test or a result turns out to be, and what two equal ones hold.
use Rattle.std.proofs.Common.{◌≡◌, Bool, List, [], ◌∷◌, true, false, option_map, refl}
use Rattle.std.specs.List.{find, list_any}
use Rattle.std.specs.Prelude.{◌||◌, Option, Some, None, Result, Ok, Err, is_some}

pub by_test : {P : Type 0} (b : Bool) → (b ≡ true → P) → (b ≡ false → P) → P
by_test true f g = f refl
by_test false f g = g refl

pub by_result : {A E P : Type 0} (r : Result A E) → ((x : A) → r ≡ Ok x → P) → ((e : E) → r ≡ Err e → P) → P
by_result (Ok x) f g = f x refl
by_result (Err e) f g = g e refl

pub same_ok : {A E : Type 0} {x y : A} → ◌≡◌ {A = Result A E} (Ok x) (Ok y) → x ≡ y
same_ok is = cc

pub same_some : {A : Type 0} {x y : A} → ◌≡◌ {A = Option A} (Some x) (Some y) → x ≡ y
same_some is = cc

pub or_last : (b : Bool) → (b || false) ≡ b
or_last true = refl
or_last false = refl

pub is_some_find : {X : Type 0} (p : X → Bool) (xs : List X) → list_any p xs ≡ is_some (find p xs)
is_some_find p [] = refl
is_some_find p (x ∷ xs) = by_test (p x) (λ hit. rw hit refl) (λ miss. rw miss (is_some_find p xs))

pub some_map : {X Y : Type 0} (f : X → Y) (o : Option X) → is_some (option_map f o) ≡ is_some o
some_map f None = refl
some_map f (Some x) = refl
