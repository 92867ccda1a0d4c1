-- The cutting of a text, from the front on.
use Rattle.std.specs.Prelude.{◌++◌, ◌+◌, ◌∷◌, ◌≡◌, ◌≤◌}
use Rattle.stmt65.proofs.Lemmas.{Bool, List, [], and_parts, ap, arith, drop, false, length, refl, suc, true, ℕ, ◌∙◌}
use Rattle.std.specs.List.{list_all, prefix_len}
use Rattle.stmt65.specs.Words.{Datum, NumberDatum, StringDatum, cut_text, is_plain, onto_stretch}
use Rattle.stmt65.proofs.Cases.{by_test}
use Rattle.stmt65.proofs.Lexed.{begins}

-- ---- stretches and bytes

pub cut_nil : cut_text [] ≡ []
unfolding cut_text
cut_nil = refl

-- a byte that is not plain
pub cut_single : (b : ℕ) (bs : List ℕ) → is_plain b ≡ false → cut_text (b ∷ bs) ≡ NumberDatum b ∷ cut_text bs
unfolding cut_text
cut_single b bs h = rw h refl

-- a plain byte
pub cut_onto : (b : ℕ) (bs : List ℕ) → is_plain b ≡ true → cut_text (b ∷ bs) ≡ onto_stretch b (cut_text bs)
unfolding cut_text
cut_onto b bs h = rw h refl

-- the last byte of a stretch
cut_last : (b : ℕ) (rest : List ℕ) → is_plain b ≡ true → begins is_plain rest ≡ false → cut_text (b ∷ rest) ≡ StringDatum (b ∷ []) ∷ cut_text rest
cut_last b [] h e = cut_onto b [] h ∙ rw cut_nil refl
cut_last b (c ∷ cs) h e = cut_onto b (c ∷ cs) h ∙ rw (cut_single c cs e) refl

-- a stretch that is as long as can be
pub cut_stretch : (t rest : List ℕ) → 1 ≤ length t → list_all is_plain t ≡ true → begins is_plain rest ≡ false → cut_text (t ++ rest) ≡ StringDatum t ∷ cut_text rest
cut_stretch [] rest lt h e = absurd (omega arith)
cut_stretch (b ∷ []) rest lt h e = cut_last b rest (and_parts (is_plain b) true h).0 e
cut_stretch (b ∷ c ∷ t) rest lt h e =
    let p = and_parts (is_plain b) (list_all is_plain (c ∷ t)) h in
    cut_onto b (c ∷ (t ++ rest)) p.0 ∙ ap (onto_stretch b) (cut_stretch (c ∷ t) rest (omega arith) p.1 e)

-- no stretch stands here
abbrev pub EndsStretch : List Datum → Type 0
EndsStretch (StringDatum stretch ∷ ds) = ⊥
EndsStretch _ = Unit {0}

-- a byte before a text: by itself, as a stretch of its own, or joined to the stretch that follows
pub cut_case : (P : List Datum → Type 0) (b : ℕ) (bs : List ℕ) → (is_plain b ≡ false → P (NumberDatum b ∷ cut_text bs))
    → (is_plain b ≡ true → EndsStretch (cut_text bs) → P (StringDatum (b ∷ []) ∷ cut_text bs))
    → ((t : List ℕ) (ds : List Datum) → is_plain b ≡ true → cut_text bs ≡ StringDatum t ∷ ds → P (StringDatum (b ∷ t) ∷ ds)) → P (cut_text (b ∷ bs))
cut_case P b bs single own joined = grind (arith, cut_onto, cut_single)

-- where a run ends, what follows does not pass
pub run_ends : (p : ℕ → Bool) (xs : List ℕ) → begins p (drop (prefix_len p xs) xs) ≡ false
run_ends p [] = refl
run_ends p (x ∷ xs) =
    let k : 1 + prefix_len p xs ≡ suc (prefix_len p xs) = omega arith in
    by_test (p x) (λ e. rw (e, k) (run_ends p xs)) (λ e. rw e e)
