-- The texts of tables, from the front on.
use Rattle.std.specs.Prelude.{◌++◌, ◌<◌, ◌==◌, ◌∷◌, ◌≡◌, ◌≤◌}
use Rattle.stmt65.proofs.Lemmas.{List, [], ap, append-nil, append_assoc, arith, drop, eqb-true, false, get_or, length, length-take-le, lt-ltb, prefix_len-le-length, refl, suc, sym, take, take-append-drop, true, ℕ, ◌∙◌}
use Rattle.std.specs.List.{flat_map, prefix_len}
use Rattle.stmt65.specs.Words.{AreBytes, Directive, comma_list, cut_text, data_text, datum_text, entries, entry_len, entry_text, hex2, is_plain, next_text, numbers_text, quoted}
use Rattle.stmt65.proofs.Cases.{by_test}
use Rattle.stmt65.proofs.PartLemmas.{run_passes}
use Rattle.stmt65.proofs.EntryLaws.{entries_none, entries_more}
use Rattle.stmt65.proofs.CutLemmas.{cut_nil, cut_single, cut_case, cut_stretch, run_ends}

-- the bytes of a slice have 8 bits
pub each_in_width : (xs : List ℕ) → ((i : ℕ) → get_or xs i 0 < 256) → AreBytes xs
each_in_width [] h = refl
each_in_width (x ∷ xs) h = rw (lt-ltb x 256 (h 0), each_in_width xs (λ i. h (suc i))) refl

-- ---- numbers

next_entries : (d : Directive) (bytes : List ℕ) → entry_len d ≤ length bytes → flat_map (next_text (entry_text d)) (entries d bytes) ≡ 44 ∷ numbers_text d bytes
unfolding comma_list
next_entries d bytes le = rw (entries_more d bytes le) refl

-- the first entry, and the others after a comma
pub entries_next : (d : Directive) (bytes front rest : List ℕ) → entry_len d ≤ length bytes → front ≡ take (entry_len d) bytes → rest ≡ drop (entry_len d) bytes → entry_len d ≤ length rest → numbers_text d bytes ≡ entry_text d front ++ 44 ∷ numbers_text d rest
unfolding comma_list
entries_next d bytes front rest le f r more = rw (f, entries_more d bytes le, ← r) (ap (λ (l : List ℕ). entry_text d (take (entry_len d) bytes) ++ l) (next_entries d rest more))

-- the last one
pub entries_last : (d : Directive) (bytes front rest : List ℕ) → entry_len d ≤ length bytes → front ≡ take (entry_len d) bytes → rest ≡ drop (entry_len d) bytes → length rest < entry_len d → numbers_text d bytes ≡ entry_text d front
unfolding comma_list
entries_last d bytes front rest le f r less = rw (f, entries_more d bytes le, ← r, entries_none d rest less) (append-nil (entry_text d (take (entry_len d) bytes)))

pub ruleset entries_put = (entries_next, entries_last, append_assoc)

-- ---- text

first_single : (bytes : List ℕ) → 1 ≤ length bytes → prefix_len is_plain bytes ≡ 0 → data_text (cut_text bytes) ≡ hex2 (get_or bytes 0 0) ++ flat_map (next_text datum_text) (cut_text (drop 1 bytes))
unfolding comma_list
first_single [] lt e = absurd (omega arith)
first_single (b ∷ bs) lt e = by_test (is_plain b) (λ h. let e' = rw h at e in absurd (omega arith)) (λ h. rw (cut_single b bs h) refl)

-- a byte that is not plain is put, and the others are left
pub single_put : (bytes rest old new : List ℕ) → 1 ≤ length bytes → prefix_len is_plain bytes ≡ 0 → rest ≡ drop 1 bytes → new ≡ old ++ hex2 (get_or bytes 0 0)
    → new ++ flat_map (next_text datum_text) (cut_text rest) ≡ old ++ data_text (cut_text bytes)
single_put bytes rest old new lt e r n = rw (n, r, first_single bytes lt e) (append_assoc old _ _)

first_stretch : (bytes : List ℕ) → 1 ≤ prefix_len is_plain bytes
    → data_text (cut_text bytes) ≡ quoted (take (prefix_len is_plain bytes) bytes) ++ flat_map (next_text datum_text) (cut_text (drop (prefix_len is_plain bytes) bytes))
unfolding comma_list
first_stretch bytes lt =
    let n = prefix_len is_plain bytes in
    let long : 1 ≤ length (take (prefix_len is_plain bytes) bytes) = omega (arith, length-take-le (prefix_len is_plain bytes) bytes (prefix_len-le-length is_plain bytes)) in
    let source = cut_stretch (take n bytes) (drop n bytes) long (run_passes is_plain n bytes (omega arith)) (run_ends is_plain bytes) in
    ap (λ (l : List ℕ). data_text (cut_text l)) (sym (take-append-drop n bytes)) ∙ ap data_text source

-- the longest stretch is put, and the others are left
pub stretch_put : (bytes front rest old new : List ℕ) (n : ℕ) → n ≡ prefix_len is_plain bytes → 1 ≤ n → front ≡ take n bytes → rest ≡ drop n bytes → new ≡ ((old ++ 34 ∷ []) ++ front) ++ 34 ∷ []
    → new ++ flat_map (next_text datum_text) (cut_text rest) ≡ old ++ data_text (cut_text bytes)
stretch_put bytes front rest old new n e lt f r w = rw (w, f, r, e, first_stretch bytes (omega arith)) (simp append_assoc)

next_texts : (bytes : List ℕ) → (length bytes == 0) ≡ false → flat_map (next_text datum_text) (cut_text bytes) ≡ 44 ∷ data_text (cut_text bytes)
unfolding comma_list
next_texts [] more = absurd cc
next_texts (b ∷ bs) more = cut_case (λ ds. flat_map (next_text datum_text) ds ≡ 44 ∷ data_text ds) b bs (λ p. refl) (λ p ends. refl) (λ t ds p e. refl)

-- a comma is put, and the text that is left
pub text_step : (bytes out new text : List ℕ) → (length bytes == 0) ≡ false → out ++ flat_map (next_text datum_text) (cut_text bytes) ≡ text → new ≡ (out ++ 44 ∷ []) ++ data_text (cut_text bytes) → new ≡ text
text_step bytes out new text more e n = n ∙ append_assoc out (44 ∷ []) (data_text (cut_text bytes)) ∙ ap (λ (l : List ℕ). out ++ l) (sym (next_texts bytes more)) ∙ e

pub text_end : (bytes out text : List ℕ) → (length bytes == 0) ≡ true → out ++ flat_map (next_text datum_text) (cut_text bytes) ≡ text → out ≡ text
text_end [] out text none e = rw (cut_nil, append-nil) at e
text_end (b ∷ bs) out text none e = absurd (omega (arith, eqb-true (length (b ∷ bs)) 0 none))
