-- Of the comparison of two informations.
use Rattle.std.proofs.Common.{◌≡◌, ◌<◌, ◌+◌, ℕ, List, [], ◌∷◌, ◌++◌, get_or, length, take, subst, sym}
use Rattle.std.proofs.lemmas.List.{take_more}
use Rattle.info65.specs.Words.{NameView, blank_name, default_label, name_at}
use Rattle.trace65.specs.Check.{given, label, none}
use Rattle.trace65.specs.Words.{AreMerged}

-- one name more, which the base gives
pub given_last : (n : NameView) {names : List NameView} {labels : List ℕ} {all : List NameView}
    → AreMerged names labels all → AreMerged (names ++ n ∷ []) labels (all ++ n ∷ [])
given_last n none = given n [] [] [] none
given_last n (given m names labels all rest) = given m (names ++ n ∷ []) labels (all ++ n ∷ []) (given_last n rest)
given_last n (label a names labels all rest) = label a (names ++ n ∷ []) labels (all ++ n ∷ []) (given_last n rest)

-- one name more, which is a label
pub label_last : (a : ℕ) {names : List NameView} {labels : List ℕ} {all : List NameView}
    → AreMerged names labels all → AreMerged names (labels ++ a ∷ []) (all ++ default_label a ∷ [])
label_last a none = label a [] [] [] none
label_last a (given m names labels all rest) = given m names (labels ++ a ∷ []) (all ++ default_label a ∷ []) (label_last a rest)
label_last a (label b names labels all rest) = label b names (labels ++ a ∷ []) (all ++ default_label a ∷ []) (label_last a rest)

-- the next name of the base is the next one
pub given_next : (names all : List NameView) (labels : List ℕ) (j i : ℕ) → j < length names → i < length all → name_at all i ≡ name_at names j
    → AreMerged (take j names) labels (take i all) → AreMerged (take (j + 1) names) labels (take (i + 1) all)
given_next names all labels j i within there same merged =
    let P : List NameView → Type 0 = λ l. AreMerged (take (j + 1) names) labels l in
    let Q : List NameView → Type 0 = λ l. AreMerged l labels (take i all ++ name_at all i ∷ []) in
    let R : NameView → Type 0 = λ n. AreMerged (take j names ++ n ∷ []) labels (take i all ++ name_at all i ∷ []) in
    subst P (sym (take_more all i blank_name there)) (subst Q (sym (take_more names j blank_name within)) (subst R same (given_last (name_at all i) merged)))

-- the default name of the next address is the next one
pub label_next : (names all : List NameView) (labels : List ℕ) (k i : ℕ) → k < length labels → i < length all → name_at all i ≡ default_label (get_or labels k 0)
    → AreMerged names (take k labels) (take i all) → AreMerged names (take (k + 1) labels) (take (i + 1) all)
label_next names all labels k i within there same merged =
    let P : List NameView → Type 0 = λ l. AreMerged names (take (k + 1) labels) l in
    let Q : List ℕ → Type 0 = λ l. AreMerged names l (take i all ++ name_at all i ∷ []) in
    let R : NameView → Type 0 = λ n. AreMerged names (take k labels ++ get_or labels k 0 ∷ []) (take i all ++ n ∷ []) in
    subst P (sym (take_more all i blank_name there)) (subst Q (sym (take_more labels k 0 within)) (subst R (sym same) (label_last (get_or labels k 0) merged)))
