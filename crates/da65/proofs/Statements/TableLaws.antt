-- The bytes of tables: texts, and numbers.
use Rattle.std.proofs.Common.{◌≡◌, ℕ, zero, suc, ◌*◌, ◌/◌, ◌%◌, ◌<◌, ◌≤◌, List, ◌∷◌, length, map, take, drop, refl, subst, ◌∙◌, arith, []}
use Rattle.std.specs.List.{flat_map}
use Rattle.std.proofs.Math.Nat.{suc-mul}
use Rattle.std.proofs.lemmas.Bool.{cond_both}
use Rattle.std.proofs.lemmas.List.{length-drop, length-take-le, take-append-drop}
use Rattle.std.proofs.lemmas.List.Elements.{All-drop, All-head, All-tail, All-take}
use Rattle.stmt65.specs.Words.{Datum, Definition, Entry, Fixed, NumberDatum, StringDatum, cut_text, datum_fragments, entries, entry_len, entry_value, is_plain, onto_stretch, pieces}
use Rattle.da65.specs.Words.{Directive}
use Rattle.stmt65.specs.declared.directive.Directive.TheVariants.{Word}
use Rattle.map65.specs.Words.{AreBytes}
use Rattle.da65.proofs.Statements.FragmentLaws.{FragmentsGive, fixed_gives, no_fragments, single_gives}
use Rattle.da65.proofs.Instructions.ValueLaws.{number_worth}
use Rattle.da65.proofs.Instructions.WorthLaws.{entry_worth_gives}

-- ---- texts

-- a plain byte is one more byte of the line's own
onto_fragments : (b : ℕ) (ds : List Datum) → flat_map datum_fragments (onto_stretch b ds) ≡ Fixed b ∷ flat_map datum_fragments ds
onto_fragments b [] = refl
onto_fragments b (NumberDatum n ∷ others) = refl
onto_fragments b (StringDatum stretch ∷ others) = refl
onto_fragments b (_ ∷ others) = refl

pub text_give : (Full : List Definition → Type 0) (next : ℕ) (bytes : List ℕ) → AreBytes bytes → FragmentsGive Full next (flat_map datum_fragments (cut_text bytes)) bytes
unfolding cut_text
text_give Full next [] are = no_fragments Full next
text_give Full next (b ∷ bytes) are =
    let others = text_give Full next bytes (All-tail (λ b. b < 256) b bytes are) in
    cond_both (is_plain b) (onto_stretch b (cut_text bytes)) (NumberDatum b ∷ cut_text bytes) (λ ds. FragmentsGive Full next (flat_map datum_fragments ds) (b ∷ bytes))
    (λ plain. rw (onto_fragments b (cut_text bytes)) (fixed_gives Full next b _ bytes others))
    (λ other. single_gives Full next b _ bytes (All-head (λ b. b < 256) b bytes are) others)

-- ---- numbers

pub pieces_give : (Full : List Definition → Type 0) (next : ℕ) (d : Directive) (count : ℕ) (bytes : List ℕ) → AreBytes bytes → length bytes ≡ count * entry_len d
    → FragmentsGive Full next (map (Entry d) (map (entry_value d) (pieces count (entry_len d) bytes))) bytes
unfolding pieces
pieces_give Full next d zero [] are long = no_fragments Full next
pieces_give Full next d zero (b ∷ bytes) are long = absurd (omega (arith, long))
pieces_give Full next d (suc count) bytes are long =
    let n = entry_len d in
    let room : n ≤ length bytes = omega (arith, long, suc-mul count n) in
    let left : length (drop n bytes) ≡ count * n = length-drop n bytes ∙ omega (arith, long, suc-mul count n) in
    let others = pieces_give Full next d count (drop n bytes) (All-drop (λ b. b < 256) n bytes are) left in
    let front = entry_worth_gives Full next d (entry_value d (take n bytes)) (take n bytes) _ (drop n bytes) (λ all full. number_worth all _) (length-take-le n bytes room) (All-take (λ b. b < 256) n bytes are) others in
    subst (λ (l : List ℕ). FragmentsGive Full next (map (Entry d) (map (entry_value d) (pieces (suc count) n bytes))) l) (take-append-drop n bytes) front

-- the entries of a table give its bytes
pub entries_give : (Full : List Definition → Type 0) (next : ℕ) (d : Directive) (bytes : List ℕ) → AreBytes bytes → length bytes % entry_len d ≡ 0
    → FragmentsGive Full next (map (Entry d) (map (entry_value d) (entries d bytes))) bytes
unfolding entries
entries_give Full next d bytes are whole = pieces_give Full next d (length bytes / entry_len d) bytes are (count d whole)
  where
    count : (d : Directive) → length bytes % entry_len d ≡ 0 → length bytes ≡ length bytes / entry_len d * entry_len d
    count Word h = omega (arith, h)
    count _ h = omega (arith, h)
