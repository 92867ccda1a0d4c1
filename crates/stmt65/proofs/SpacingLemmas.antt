-- The lexer takes the parts that stand in the line.
use Rattle.std.specs.Prelude.{◌&&◌, ◌++◌, ◌+◌, ◌<◌, ◌||◌, ◌∷◌, ◌≡◌, ◌≤◌, ◌⊎◌, nat_lt}
use Rattle.stmt65.proofs.Lemmas.{Bool, List, [], and_parts, ap, append_assoc, arith, drop, drop_at, eqb, eqb-true, false, inl, inr, length, length-drop, length-take, length-take-le, ltb-true, not-true, or_parts, prefix_len-le-length, refl, subst, suc, sym, take, take-append-drop, take_at, true, zero, ℕ, ◌∙◌, length-append}
use Rattle.std.specs.Char.{is_ascii_digit, is_ascii_hexdigit}
use Rattle.std.specs.List.{list_all, prefix_len}
use Rattle.stmt65.specs.Words.{Define, IsDecimal, IsHex, IsSpacing, IsText, Listing, Mark, Number, Part, TakesParts, Text, Word, begins_with, hex_len, is_alone, is_blank, is_text_byte, is_word_byte, is_word_start, part_at, parts}
use Rattle.stmt65.proofs.PartLemmas.{parts_nil, parts_blank, parts_remark, parts_part, run_passes}
use Rattle.stmt65.proofs.Cases.{by_test}
use Rattle.stmt65.proofs.Lexed.{digit_begins, digit_no_word, prefix_stop, word_begins}

-- ---- runs of bytes

-- a run is at least as long as what passes in front
at_least : (p : ℕ → Bool) (xs ys : List ℕ) → list_all p xs ≡ true → length xs ≤ prefix_len p (xs ++ ys)
at_least p [] ys h = omega arith
at_least p (x ∷ xs) ys h = let b = and_parts (p x) (list_all p xs) h in rw b.0 (omega (arith, at_least p xs ys b.1))

-- ---- the part in front

-- What the lexer takes is a part, and it fits.
pub record Takes (b : ℕ) (bs : List ℕ) (p : Part) (k : ℕ) : Type 0 where
  pub text : IsText p (b ∷ take k bs)
  pub fits : k ≤ length bs

stays_alone : (b : ℕ) → is_blank b ≡ false → eqb b 59 ≡ false → is_word_start b ≡ false → is_ascii_digit b ≡ false → is_alone b ≡ true
stays_alone b h g w d = rw (h, g, w, d) refl

begun : (b : ℕ) (bs : List ℕ) → begins_with b bs ≡ true → bs ≡ b ∷ drop 1 bs
begun b [] h = absurd cc
begun b (c ∷ cs) h = ap (λ (d : ℕ). d ∷ cs) (eqb-true c b h)

pub taken : (b : ℕ) (bs : List ℕ) → is_blank b ≡ false → eqb b 59 ≡ false → Takes b bs (part_at Listing b bs).0 (part_at Listing b bs).1
unfolding part_at
taken b bs h g =
    by_test (is_word_start b)
    (λ w. rw w (record { text = (refl, (w, run_passes is_word_byte (prefix_len is_word_byte bs) bs (omega arith))); fits = prefix_len-le-length is_word_byte bs }))
    (λ w. rw w (by_test (is_ascii_digit b)
    (λ d. rw d (record { text = (refl, inl (omega arith, rw d (run_passes is_ascii_digit (prefix_len is_ascii_digit bs) bs (omega arith)))); fits = prefix_len-le-length is_ascii_digit bs }))
    (λ d. rw d (by_test (eqb b 36 && nat_lt 0 (hex_len bs))
    (λ x. let e = and_parts (eqb b 36) (nat_lt 0 (hex_len bs)) x in let pos = ltb-true 0 (hex_len bs) e.1 in
    let long = length-take (hex_len bs) bs in
    rw x (record { text = (refl, inr (take (hex_len bs) bs, ap (λ (c : ℕ). c ∷ take (hex_len bs) bs) (eqb-true b 36 e.0), omega (arith, long, prefix_len-le-length is_ascii_hexdigit bs), omega (arith, long), run_passes is_ascii_hexdigit (hex_len bs) bs (omega arith))); fits = omega (arith, prefix_len-le-length is_ascii_hexdigit bs) }))
    (λ x. rw x (by_test (eqb b 34 && begins_with 34 (drop (prefix_len is_text_byte bs) bs))
    (λ t. let e = and_parts (eqb b 34) (begins_with 34 (drop (prefix_len is_text_byte bs) bs)) t in
    rw t (text_taken b bs (prefix_len is_text_byte bs) (eqb-true b 34 e.0) (begun 34 _ e.1) (run_passes is_text_byte (prefix_len is_text_byte bs) bs (omega arith)) (prefix_len-le-length is_text_byte bs)))
    (λ t. rw t (by_test (eqb b 58 && begins_with 61 bs)
    (λ c. let e = and_parts (eqb b 58) (begins_with 61 bs) c in rw c (define_taken b bs (eqb-true b 58 e.0) (begun 61 bs e.1)))
    (λ c. rw c (record { text = (refl, stays_alone b h g w d); fits = omega arith }))))))))))
  where
    text_taken : (b : ℕ) (bs : List ℕ) (n : ℕ) → b ≡ 34 → drop n bs ≡ 34 ∷ drop 1 (drop n bs) → list_all is_text_byte (take n bs) ≡ true → n ≤ length bs → Takes b bs (Text (take n bs)) (n + 1)
    text_taken b bs n e q passes le =
        let split : bs ≡ take n bs ++ 34 ∷ drop 1 (drop n bs) = sym (take-append-drop n bs) ∙ ap (λ (r : List ℕ). take n bs ++ r) q in
        let long : length (take n bs) ≡ n = omega (arith, length-take n bs) in
        let cut : take (n + 1) bs ≡ take n bs ++ 34 ∷ [] =
        ap (take (n + 1)) (split ∙ sym (append_assoc (take n bs) (34 ∷ []) (drop 1 (drop n bs)))) ∙ take_at (take n bs ++ 34 ∷ []) (drop 1 (drop n bs)) (n + 1) (omega (arith, long, length-append (take n bs) (34 ∷ []))) in
        record { text = (rw (e, cut) refl, passes); fits = omega (arith, ap length split, length-append (take n bs) (34 ∷ drop 1 (drop n bs)), long) }

    define_taken : (b : ℕ) (bs : List ℕ) → b ≡ 58 → bs ≡ 61 ∷ drop 1 bs → Takes b bs Define 1
    define_taken b [] e q = absurd (omega (arith, ap length q))
    define_taken b (c ∷ cs) e q = record { text = rw (e, ap (take 1) q) refl; fits = omega arith }

-- ---- no part is longer, and one as long is the same

record IsBest (found : Part × ℕ) (q : Part) (n : ℕ) : Type 0 where
  bound : n ≤ found.1 + 1
  same : n ≡ found.1 + 1 → q ≡ found.0

best_decimal : (b : ℕ) (ds more : List ℕ) → is_ascii_digit b ≡ true → list_all is_ascii_digit ds ≡ true → IsBest (part_at Listing b (ds ++ more)) (Number (b ∷ ds)) (suc (length ds))
unfolding part_at
best_decimal b ds more h g = rw (digit_no_word b h, h) (record { bound = omega (arith, at_least is_ascii_digit ds more g); same = λ e. let k : prefix_len is_ascii_digit (ds ++ more) ≡ length ds = omega arith in rw (k, take_at ds more (length ds) refl) refl })

best_hex : (ds more : List ℕ) → list_all is_ascii_hexdigit ds ≡ true → 0 < length ds → length ds ≤ 8 → IsBest (part_at Listing 36 (ds ++ more)) (Number (36 ∷ ds)) (suc (length ds))
unfolding part_at
best_hex ds more g pos le = grind (arith, at_least, take_at)

alone_begins : (b : ℕ) → is_alone b ≡ true → (is_word_start b ≡ false) × (is_ascii_digit b ≡ false)
alone_begins b h = let n = or_parts (eqb b 59) _ (or_parts (is_blank b) _ (not-true (is_blank b || (eqb b 59 || (is_word_start b || is_ascii_digit b))) h)).1 in or_parts (is_word_start b) _ n.1

abbrev IsBestOf : List ℕ → Part → ℕ → Type 0
IsBestOf [] q n = Unit {0}
IsBestOf (b ∷ bs) q n = IsBest (part_at Listing b bs) q n

best_number : (t more : List ℕ) → IsDecimal t ⊎ IsHex t → IsBestOf (t ++ more) (Number t) (length t)
best_number [] more (inl d) = absurd (omega (arith, d.0))
best_number (b ∷ t) more (inl d) = let e = and_parts (is_ascii_digit b) (list_all is_ascii_digit t) d.1 in best_decimal b t more e.0 e.1
best_number t more (inr x) = subst (λ (u : List ℕ). IsBestOf (u ++ more) (Number u) (length u)) (sym x.1) (best_hex x.0 more x.4 x.2 x.3)

best_of : (q : Part) (text more : List ℕ) → IsText q text → IsBestOf (text ++ more) q (length text)
unfolding part_at
best_of (Word []) text more h = absurd h.1
best_of (Word (c ∷ w)) text more h =
    rw (h.0, h.1.0) (record { bound = omega (arith, at_least is_word_byte w more h.1.1); same = λ e. let k : prefix_len is_word_byte (w ++ more) ≡ length w = omega arith in rw (k, take_at w more (length w) refl) refl })
best_of (Number t) text more h = rw h.0 (best_number t more h.1)
best_of (Text t) text more h =
    rw (h.0, append_assoc t (34 ∷ []) more, length-append t (34 ∷ []), prefix_stop is_text_byte t (34 ∷ more) h.1 refl, drop_at t (34 ∷ more) (length t) refl, take_at t (34 ∷ more) (length t) refl) (record { bound = omega arith; same = λ e. refl })
best_of Define text more h = rw h (record { bound = omega arith; same = λ e. refl })
best_of (Mark b) text more h = rw h.0 (grind (arith, alone_begins, by_test, eqb))

-- a part in front of these bytes
best : (b : ℕ) (bs : List ℕ) (q : Part) (text more : List ℕ) → b ∷ bs ≡ text ++ more → IsText q text → IsBest (part_at Listing b bs) q (length text)
best b bs q text more e h = subst (λ (l : List ℕ). IsBestOf l q (length text)) (sym e) (best_of q text more h)

-- ---- the law

parts_blanks : (blanks rest : List ℕ) → list_all is_blank blanks ≡ true → parts Listing (blanks ++ rest) ≡ parts Listing rest
parts_blanks [] rest h = refl
parts_blanks (b ∷ bs) rest h = let e = and_parts (is_blank b) (list_all is_blank bs) h in parts_blank Listing b (bs ++ rest) e.0 ∙ parts_blanks bs rest e.1

blank_in_front : (ps : List Part) (b : ℕ) (bs : List ℕ) → is_blank b ≡ true → IsSpacing ps bs → IsSpacing ps (b ∷ bs)
blank_in_front [] b bs h s = (b ∷ s.0, s.1, ap (λ (r : List ℕ). b ∷ r) s.2, rw h s.3, s.4)
blank_in_front (p ∷ ps) b bs h s = (b ∷ s.0, s.1, s.2, ap (λ (r : List ℕ). b ∷ r) s.3, rw h s.4, s.5, s.6, s.7)

spaced : (n : ℕ) (line : List ℕ) → length line ≤ n → IsSpacing (parts Listing line) line
spaced n [] le = rw (parts_nil Listing) ([], [], refl, refl, inl refl)
spaced zero (b ∷ bs) le = absurd (omega arith)
spaced (suc n) (b ∷ bs) le =
    by_test (is_blank b)
    (λ h. rw (parts_blank Listing b bs h) (blank_in_front (parts Listing bs) b bs h (spaced n bs (omega arith))))
    (λ h. by_test (eqb b 59)
    (λ g. let e = eqb-true b 59 g in rw e (rw (parts_remark Listing bs) ([], 59 ∷ bs, refl, refl, inr (bs, refl))))
    (λ g. let t = taken b bs h g in let k = (part_at Listing b bs).1 in
    let split : b ∷ (take k bs ++ drop k bs) ≡ b ∷ bs = ap (λ (r : List ℕ). b ∷ r) (take-append-drop k bs) in
    rw (parts_part Listing b bs h g) (
      [],
      b ∷ take k bs,
      drop k bs,
      sym split,
      refl,
      t.text,
      λ q other more e q_is. omega (arith, (best b bs q other more (sym split ∙ e) q_is).bound, length-take-le k bs t.fits),
      spaced n (drop k bs) (omega (arith, length-drop k bs)),
    )))

number_begins : (t : List ℕ) → IsDecimal t ⊎ IsHex t → (b : ℕ) × (bs : List ℕ) × (t ≡ b ∷ bs) × (is_blank b ≡ false) × (eqb b 59 ≡ false)
number_begins [] (inl d) = absurd (omega (arith, d.0))
number_begins (b ∷ t) (inl d) = let e = digit_begins b (and_parts (is_ascii_digit b) (list_all is_ascii_digit t) d.1).0 in (b, t, refl, e.0, e.1)
number_begins t (inr x) = (36, x.0, x.1, refl, refl)

text_begins : (p : Part) (text : List ℕ) → IsText p text → (b : ℕ) × (bs : List ℕ) × (text ≡ b ∷ bs) × (is_blank b ≡ false) × (eqb b 59 ≡ false)
text_begins (Word []) text h = absurd h.1
text_begins (Word (c ∷ w)) text h = let e = word_begins c h.1.0 in (c, w, h.0, e.0, e.1)
text_begins (Number t) text h = rw h.0 (number_begins t h.1)
text_begins (Text t) text h = (34, t ++ 34 ∷ [], h.0, refl, refl)
text_begins Define text h = (58, 61 ∷ [], h, refl, refl)
text_begins (Mark b) text h = grind (arith, or_parts, not-true, eqb)

again : (ps : List Part) (line : List ℕ) → IsSpacing ps line → parts Listing line ≡ ps
again [] line s = grind (arith, parts_blanks, parts_nil, parts_remark)
again (p ∷ ps) line s =
    let t = text_begins p s.1 s.5 in
    let k = (part_at Listing t.0 (t.1 ++ s.2)).1 in
    let whole : s.1 ++ s.2 ≡ t.0 ∷ (t.1 ++ s.2) = ap (λ (r : List ℕ). r ++ s.2) t.2 in
    let found = taken t.0 (t.1 ++ s.2) t.3 t.4 in
    let split : t.0 ∷ (t.1 ++ s.2) ≡ (t.0 ∷ take k (t.1 ++ s.2)) ++ drop k (t.1 ++ s.2) = ap (λ (r : List ℕ). t.0 ∷ r) (sym (take-append-drop k (t.1 ++ s.2))) in
    let low = s.6 (part_at Listing t.0 (t.1 ++ s.2)).0 (t.0 ∷ take k (t.1 ++ s.2)) (drop k (t.1 ++ s.2)) (whole ∙ split) found.text in
    let b = best t.0 (t.1 ++ s.2) p s.1 s.2 (sym whole) s.5 in
    let len : length s.1 ≡ k + 1 = omega (arith, b.bound, low, length-take-le k (t.1 ++ s.2) found.fits) in
    let more : length t.1 ≡ k = omega (arith, len, ap length t.2) in
    rw s.3 (parts_blanks s.0 (s.1 ++ s.2) s.4 ∙ ap (parts Listing) whole ∙ parts_part Listing t.0 (t.1 ++ s.2) t.3 t.4
    ∙ ap (λ (q : Part). q ∷ parts Listing (drop k (t.1 ++ s.2))) (sym (b.same len))
    ∙ ap (λ (r : List ℕ). p ∷ parts Listing r) (drop_at t.1 s.2 k more)
    ∙ ap (λ (qs : List Part). p ∷ qs) (again ps s.2 s.7))

pub takes_parts : TakesParts
takes_parts line ps = (λ e. rw e at (spaced (length line) line (omega arith)), λ s. again ps line s)
