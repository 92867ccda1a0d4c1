-- Lists joined by commas, one after the other as a loop reads them.
use Rattle.std.specs.Prelude.{◌++◌, ◌+◌, ◌-◌, ◌<◌, ◌∷◌, ◌≡◌, ◌≤◌, map}
use Rattle.stmt65.proofs.Lemmas.{List, None, Option, Some, [], ap, append_assoc, arith, drop, false, length, map-append, refl, suc, sym, true, ◌∙◌, length-append}
use Rattle.stmt65.specs.Words.{◌>>=◌, Part, is_mark, is_nil, joined, list_of}
use Rattle.stmt65.proofs.Cases.{by_list, mark_is}

-- the list, and others before it
abbrev pub fronted : {A : Type 0} → List A → Option (List A) → Option (List A)
fronted before None = None
fronted before (Some xs) = Some (before ++ xs)

-- the list that all of the parts are begins with what was found, and goes on with what is read of the parts that are left
pub record IsFound {A : Type 0} (read : List Part → Option (A × List Part)) (found : List A) (left all : List Part) : Type 0 where
  pub same : fronted found (joined read (suc (length all - length found)) left) ≡ list_of read all
  pub room : length found + length left ≤ length all

fronted-nothing : {A : Type 0} (o : Option (List A)) → fronted [] o ≡ o
fronted-nothing None = refl
fronted-nothing (Some xs) = refl

fronted-step : {A : Type 0} (before : List A) (x : A) (o : Option (List A)) → fronted before (o >>= λ others. Some (x ∷ others)) ≡ fronted (before ++ x ∷ []) o
fronted-step before x None = refl
fronted-step {A = A} before x (Some xs) = ap (λ (k : List A). Some k) (sym (append_assoc before (x ∷ []) xs))

pub list_begun : {A : Type 0} (read : List Part → Option (A × List Part)) (ps : List Part) → IsFound read [] ps ps
list_begun read ps = let none : length ps - 0 ≡ length ps = omega arith in record { same = rw none (fronted-nothing (list_of read ps)); room = omega arith }

pub list_next : {A B : Type 0} (f : A → B) (read : List Part → Option (B × List Part)) (before : List A) (all ps rest left : List Part) (x : A) → IsFound read (map f before) ps all
    → read ps ≡ Some (f x, rest) → length rest ≤ length ps → is_mark 44 rest ≡ true → left ≡ drop 1 rest → IsFound read (map f (before ++ x ∷ [])) left all
unfolding joined
list_next f read before all ps rest left x h e fewer comma l =
    let some : length rest ≡ suc (length (drop 1 rest)) = ap length (mark_is 44 rest comma) in
    let long : length (map f before ++ f x ∷ []) ≡ suc (length (map f before)) = length-append (map f before) (f x ∷ []) ∙ omega arith in
    let fuel : length all - length (map f before) ≡ suc (length all - length (map f before ++ f x ∷ [])) = omega (arith, h.room) in
    let same : fronted (map f before ++ f x ∷ []) (joined read (suc (length all - length (map f before ++ f x ∷ []))) (drop 1 rest)) ≡ list_of read all =
    sym (fronted-step (map f before) (f x) _) ∙ (rw (fuel, e, comma) at h.same) in
    rw (l, map-append f before (x ∷ [])) (record { same = same; room = omega (arith, h.room) })

pub list_last : {A B : Type 0} (f : A → B) (read : List Part → Option (B × List Part)) (before : List A) (all ps rest left : List Part) (x : A) → IsFound read (map f before) ps all
    → read ps ≡ Some (f x, rest) → is_mark 44 rest ≡ false → left ≡ rest → is_nil left ≡ true → list_of read all ≡ Some (map f (before ++ x ∷ []))
unfolding joined
list_last f read before all ps rest left x h e comma l d = grind (arith, map-append, by_list)

pub list_more : {A B : Type 0} (f : A → B) (read : List Part → Option (B × List Part)) (before : List A) (all ps rest left : List Part) (x : A) → IsFound read (map f before) ps all
    → read ps ≡ Some (f x, rest) → is_mark 44 rest ≡ false → left ≡ rest → is_nil left ≡ false → list_of read all ≡ None
unfolding joined
list_more f read before all ps rest left x h e comma l d = grind (arith, by_list)

pub list_none : {B : Type 0} (read : List Part → Option (B × List Part)) (before : List B) (all ps : List Part) → IsFound read before ps all → read ps ≡ None → list_of read all ≡ None
unfolding joined
list_none read before all ps h e = sym h.same ∙ rw e refl

pub list_shorter : (ps rest left : List Part) → length rest ≤ length ps → is_mark 44 rest ≡ true → left ≡ drop 1 rest → length left < length ps
list_shorter ps rest left fewer comma l = rw l (omega (arith, ap length (mark_is 44 rest comma)))

pub ruleset lists = (list_begun, list_none, list_last, list_shorter)
