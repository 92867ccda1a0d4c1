-- The texts of tables are lists, joined by commas, of what the tables say.
use Rattle.std.specs.Prelude.{◌%◌, ◌&&◌, ◌*◌, ◌++◌, ◌+◌, ◌/◌, ◌<◌, ◌==◌, ◌∷◌, ◌≡◌, ◌≤◌, map, nat_lt}
use Rattle.stmt65.proofs.Lemmas.{Bool, List, [], and_parts, ap, append-nil, append_assoc, arith, digits_value_push, drop, eq-eqb, eqb-true, false, flat_map-append, length, length-drop, length-reverse, length-take-le, list_all-append, ltb, ltb-true, map-id, nat_tests, refl, reverse, reverse-append, subst, suc, suc-mul, sym, take, take-append-drop, true, zero, ℕ, ◌∙◌}
use Rattle.std.specs.Str.Parse.{digits_value}
use Rattle.std.specs.List.{flat_map, list_all}
use Rattle.std.specs.Char.{is_ascii_hexdigit}
use Rattle.stmt65.specs.Words.{AreBytes, BigEndian, ByteOrder, Datum, Directive, IsDatum, IsList, IsValue, LittleEndian, Mark, NumberDatum, Part, StringDatum, bytes_text, comma_list, cut_text, data_text, datum_text, digits2, entries, entry_len, entry_number, entry_text, entry_value, hex2, hex_digit, in_order, is_plain, is_text_byte, low_number, next_text, numbers_text, order_of, pieces}
use Rattle.stmt65.specs.declared.directive.Directive.TheVariants.{Word}
use Rattle.stmt65.proofs.Lexed.{Ends, Lexes, hex_is_digit, hex_value, lexes_both, lexes_hex, lexes_hex2, lexes_mark, lexes_text}
use Rattle.stmt65.proofs.EntryLaws.{in_order-length, entries_more}
use Rattle.stmt65.proofs.CutLemmas.{cut_nil, cut_case}

-- ---- lists joined by commas

listed : {A B : Type 0} (f : A → B) (Is : B → List Part → Type 0) (text : A → List ℕ) (p : A → Bool)
    → ((x : A) → p x ≡ true → (rest : List ℕ) → Ends rest → Lexes (Is (f x)) (text x) rest)
    → (x : A) (xs : List A) → list_all p (x ∷ xs) ≡ true → (rest : List ℕ) → Ends rest → Lexes (IsList Is (map f (x ∷ xs))) (text x ++ flat_map (next_text text) xs) rest
listed f Is text p each x [] h rest e = rw append-nil (each x (and_parts (p x) true h).0 rest e)
listed f Is text p each x (y ∷ ys) h rest e =
    let more = and_parts (p x) (list_all p (y ∷ ys)) h in
    let others = text y ++ flat_map (next_text text) ys in
    lexes_both (text x) (44 ∷ others) rest (each x more.0 (44 ∷ (others ++ rest)) refl)
    (lexes_both {R = λ qs. (ps : List Part) × (qs ≡ Mark 44 ∷ ps) × IsList Is (map f (y ∷ ys)) ps} (44 ∷ []) others rest (lexes_mark 44 (others ++ rest) refl) (listed f Is text p each y ys more.1 rest e) (λ ps qs m l. (qs, ap (λ (front : List Part). front ++ qs) m, l)))
    (λ ps qs m l. (ps, l.0, ap (λ (rest : List Part). ps ++ rest) l.1, m, l.2))

-- ---- bytes

each_byte : (b : ℕ) → ltb b 256 ≡ true → (rest : List ℕ) → Ends rest → Lexes (IsDatum (NumberDatum b)) (hex2 b) rest
each_byte b h rest e = lexes_hex2 b rest (ltb-true b 256 h) e

pub bytes_listed : (bs rest : List ℕ) → 1 ≤ length bs → AreBytes bs → Ends rest → Lexes (IsList IsDatum (map NumberDatum bs)) (bytes_text bs) rest
unfolding comma_list
bytes_listed [] rest lt h e = absurd (omega arith)
bytes_listed (b ∷ bs) rest lt h e = listed NumberDatum IsDatum hex2 (λ b. ltb b 256) each_byte b bs h rest e

-- ---- numbers

digits_pass : (bs : List ℕ) → list_all is_ascii_hexdigit (flat_map digits2 bs) ≡ true
digits_pass [] = refl
digits_pass (b ∷ bs) = rw (hex_is_digit (b / 16), hex_is_digit b, digits_pass bs) refl

digits_len : (bs : List ℕ) → length (flat_map digits2 bs) ≡ 2 * length bs
digits_len [] = refl
digits_len (b ∷ bs) = let ih = digits_len bs in omega arith

-- the digits of bytes, the high one first, are those of their number
digits_count : (bs : List ℕ) → AreBytes bs → digits_value 16 (flat_map digits2 (reverse bs)) ≡ low_number bs
unfolding low_number
digits_count [] h = refl
digits_count (b ∷ bs) h =
    let is = and_parts (ltb b 256) (list_all (λ b. ltb b 256) bs) h in
    let small = ltb-true b 256 is.0 in
    let ih = digits_count bs is.1 in
    let front = flat_map digits2 (reverse bs) in
    let split : flat_map digits2 (reverse (b ∷ bs)) ≡ (front ++ hex_digit (b / 16 % 16) ∷ []) ++ hex_digit (b % 16) ∷ [] =
    ap (flat_map digits2) (reverse-append (b ∷ []) bs) ∙ flat_map-append digits2 (reverse bs) (b ∷ []) ∙ sym (append_assoc front (hex_digit (b / 16 % 16) ∷ []) (hex_digit (b % 16) ∷ [])) in
    let last = digits_value_push 16 (front ++ hex_digit (b / 16 % 16) ∷ []) (hex_digit (b % 16)) in
    let before = digits_value_push 16 front (hex_digit (b / 16 % 16)) in
    let high = hex_value (b / 16) in
    let low = hex_value b in
    ap (digits_value 16) split ∙ last ∙ rw (before, high, low, ih) (omega arith)

-- the bytes of one entry
abbrev pub is_entry : Directive → List ℕ → Bool
is_entry d bytes = (length bytes == entry_len d) && list_all (λ b. nat_lt b 256) bytes

reverse_bytes : (bs : List ℕ) → AreBytes bs → AreBytes (reverse bs)
reverse_bytes [] h = refl
reverse_bytes (b ∷ bs) h =
    let is = and_parts (ltb b 256) (list_all (λ b. ltb b 256) bs) h in
    rw (reverse-append (b ∷ []) bs) (list_all-append (λ b. ltb b 256) (reverse bs) (b ∷ []) ∙ rw (reverse_bytes bs is.1, is.0) refl)

ordered_bytes : (o : ByteOrder) (bs : List ℕ) → AreBytes bs → AreBytes (in_order o bs)
ordered_bytes LittleEndian bs h = h
ordered_bytes BigEndian bs h = reverse_bytes bs h

entry_size : (d : Directive) → (0 < entry_len d) × (2 * entry_len d ≤ 8)
entry_size Word = (omega arith, omega arith)
entry_size _ = (omega arith, omega arith)

each_entry : (d : Directive) (bytes : List ℕ) → is_entry d bytes ≡ true → (rest : List ℕ) → Ends rest → Lexes (IsValue (entry_value d bytes)) (entry_text d bytes) rest
each_entry d bytes h rest e =
    let is = and_parts (length bytes == entry_len d) (list_all (λ b. nat_lt b 256) bytes) h in
    let long = eqb-true (length bytes) (entry_len d) is.0 in
    let low = in_order (order_of d) bytes in
    let digits = flat_map digits2 (reverse low) in
    let count : length digits ≡ 2 * entry_len d = digits_len (reverse low) ∙ rw (length-reverse low, in_order-length (order_of d) bytes, long) refl in
    lexes_hex (entry_number d bytes) digits rest (sym (digits_count low (ordered_bytes (order_of d) bytes is.1))) (digits_pass (reverse low)) (omega (arith, count, (entry_size d).0)) (omega (arith, count, (entry_size d).1)) e

split_bytes : (n : ℕ) (bs : List ℕ) → AreBytes bs → AreBytes (take n bs) × AreBytes (drop n bs)
split_bytes n bs h =
    and_parts (list_all (λ b. ltb b 256) (take n bs)) (list_all (λ b. ltb b 256) (drop n bs))
    (sym (list_all-append (λ b. ltb b 256) (take n bs) (drop n bs)) ∙ ap (list_all (λ b. ltb b 256)) (take-append-drop n bs) ∙ h)

pieces_are : (d : Directive) (count : ℕ) (bs : List ℕ) → AreBytes bs → count * entry_len d ≤ length bs → list_all (is_entry d) (pieces count (entry_len d) bs) ≡ true
unfolding pieces
pieces_are d zero bs h le = refl
pieces_are d (suc count) bs h le =
    let room : entry_len d + count * entry_len d ≤ length bs = omega (arith, suc-mul count (entry_len d)) in
    let long : length (take (entry_len d) bs) ≡ entry_len d = length-take-le (entry_len d) bs (omega arith) in
    let one : (length (take (entry_len d) bs) == entry_len d) ≡ true = eq-eqb (length (take (entry_len d) bs)) (entry_len d) long in
    let parts = split_bytes (entry_len d) bs h in
    rw (one, parts.0) (pieces_are d count (drop (entry_len d) bs) parts.1 (omega (arith, length-drop (entry_len d) bs)))

entries_are : (d : Directive) (bs : List ℕ) → AreBytes bs → list_all (is_entry d) (entries d bs) ≡ true
unfolding entries
entries_are d bs h = grind (arith, pieces_are)

pub numbers_listed : (d : Directive) (bs rest : List ℕ) → entry_len d ≤ length bs → AreBytes bs → Ends rest → Lexes (IsList IsValue (map (entry_value d) (entries d bs))) (numbers_text d bs) rest
unfolding comma_list
numbers_listed d bs rest le h e =
    let are = rw (entries_more d bs le) at (entries_are d bs h) in
    rw (entries_more d bs le) (listed (entry_value d) IsValue (entry_text d) (is_entry d) (each_entry d) (take (entry_len d) bs) (entries d (drop (entry_len d) bs)) are rest e)

-- ---- text

-- a byte, or what can stand between quotes
abbrev pub is_sound : Datum → Bool
is_sound (NumberDatum b) = ltb b 256
is_sound (StringDatum t) = list_all is_text_byte t
is_sound _ = false

plain_text : (b : ℕ) → is_plain b ≡ true → is_text_byte b ≡ true
plain_text b h = grind (arith, nat_tests)

pub cut_sound : (bs : List ℕ) → AreBytes bs → list_all is_sound (cut_text bs) ≡ true
cut_sound [] h = rw cut_nil refl
cut_sound (b ∷ bs) h =
    let a = and_parts (ltb b 256) (list_all (λ b. ltb b 256) bs) h in
    let more = cut_sound bs a.1 in
    cut_case (λ ds. list_all is_sound ds ≡ true) b bs (λ p. rw a.0 more) (λ p ends. rw (plain_text b p) more) (λ t ds p e. let k = rw e at more in rw (plain_text b p) k)

each_datum : (d : Datum) → is_sound d ≡ true → (rest : List ℕ) → Ends rest → Lexes (IsDatum d) (datum_text d) rest
each_datum (NumberDatum b) h rest e = each_byte b h rest e
each_datum (StringDatum t) h rest e = lexes_text t rest h refl
each_datum _ h rest e = absurd cc

data_listed : (d : Datum) (ds : List Datum) → list_all is_sound (d ∷ ds) ≡ true → (rest : List ℕ) → Ends rest → Lexes (IsList IsDatum (d ∷ ds)) (data_text (d ∷ ds)) rest
unfolding comma_list
data_listed d ds h rest e = subst (λ (l : List Datum). Lexes (IsList IsDatum l) (data_text (d ∷ ds)) rest) (map-id (d ∷ ds)) (listed (λ d. d) IsDatum datum_text is_sound each_datum d ds h rest e)

pub text_listed : (bs rest : List ℕ) → 1 ≤ length bs → AreBytes bs → Ends rest → Lexes (IsList IsDatum (cut_text bs)) (data_text (cut_text bs)) rest
text_listed [] rest lt h e = absurd (omega arith)
text_listed (b ∷ bs) rest lt h e =
    cut_case (λ ds. list_all is_sound ds ≡ true → Lexes (IsList IsDatum ds) (data_text ds) rest) b bs
    (λ p k. data_listed (NumberDatum b) (cut_text bs) k rest e) (λ p ends k. data_listed (StringDatum (b ∷ [])) (cut_text bs) k rest e) (λ t ds p q k. data_listed (StringDatum (b ∷ t)) ds k rest e) (cut_sound (b ∷ bs) h)
