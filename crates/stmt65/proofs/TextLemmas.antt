-- The meaning of a text, line by line.
use Rattle.std.specs.Prelude.{◌++◌, ◌+◌, ◌∷◌, ◌≡◌, Err, Ok, Result}
use Rattle.stmt65.proofs.Lemmas.{All-cons, All-head, All-tail, List, None, Option, Some, [], ap, arith, length, length-append, length-replicate, refl, sym, ℕ, ◌∙◌}
use Rattle.std.specs.List.{All, flat_map}
use Rattle.stmt65.specs.Words.{AsmFault, AsmFaultKind, Definition, Entry, Fill, Fragment, IsFaultless, IsFirstFault, Line, MeansBytes, MeansFault, SourceLine, StandsAtItsBytes, State, after, bytes_of, coded, coding_len, entry_in, fault_of, fragment_bytes, fragment_len, fragments_of, initial, line_bytes, lines_below, low, meaning_of, names_for, next_of, or_zero, unless, with_front}
use Rattle.stmt65.proofs.EntryLaws.{entry_bytes-length}

-- ---- lengths

fragment_len-bytes : (all : List Definition) (next : ℕ) (f : Fragment) → length (fragment_bytes all next f) ≡ fragment_len f
unfolding fragment_bytes
fragment_len-bytes all next (Entry d v) = entry_bytes-length d (or_zero (entry_in all d v))
fragment_len-bytes all next (Fill n b) = length-replicate n (low b)
fragment_len-bytes all next _ = refl

coding_len-bytes : (all : List Definition) (next : ℕ) (fs : List Fragment) → length (flat_map (fragment_bytes all next) fs) ≡ coding_len fs
unfolding coding_len
coding_len-bytes all next [] = refl
coding_len-bytes all next (f ∷ fs) = length-append (fragment_bytes all next f) (flat_map (fragment_bytes all next) fs) ∙ let a = fragment_len-bytes all next f in let b = coding_len-bytes all next fs in omega arith

-- the address after a line is the one before it and its bytes
pub at-after : (all : List Definition) (s : State) (l : Option SourceLine) → (after s l).at ≡ s.at + length (bytes_of all s l)
unfolding after bytes_of next_of
at-after all s None = omega arith
at-after all s (Some source) = ap (λ (n : ℕ). s.at + n) (sym (coding_len-bytes (names_for all s source) (next_of s source) (fragments_of s source)))

stands : (all : List Definition) (s : State) (ls : List (Option SourceLine)) (above below : List Line) (line : Line)
    → lines_below s ls ≡ above ++ line ∷ below → line.state.at ≡ s.at + length (flat_map (line_bytes all) above)
unfolding lines_below
stands all s [] [] below line e = cc
stands all s [] (x ∷ above) below line e = cc
stands all s (l ∷ ls) [] below line e = grind arith
stands all s (l ∷ ls) (x ∷ above) below line e = grind (arith, length-append, (at-after all s l), (stands all (after s l) ls above below line))

pub stands_at_its_bytes : StandsAtItsBytes
stands_at_its_bytes all layout start ls above below line e = stands all (initial layout start) ls above below line e

-- ---- a list of lines

no_lines : (all : List Definition) → All (IsFaultless all) []
no_lines all k d lt = absurd (omega arith)

-- what lines mean that are counted from n on
abbrev MeansFrom : List Definition → List Line → ℕ → Result (List ℕ) AsmFault → Type 0
MeansFrom all lines n (Ok bytes) = All (IsFaultless all) lines × (bytes ≡ flat_map (line_bytes all) lines)
MeansFrom all lines n (Err fault) = (k : ℕ) × (fault.line + 1 ≡ k + n) × IsFirstFault all lines k fault.kind

means_from : (all : List Definition) (n : ℕ) (s : State) (ls : List (Option SourceLine)) → MeansFrom all (lines_below s ls) n (coded all n s ls)
unfolding coded lines_below
means_from all n s [] = (no_lines all, refl)
means_from all n s (l ∷ ls) = go (fault_of all s l) refl (coded all (n + 1) (after s l) ls) (means_from all (n + 1) (after s l) ls)
  where
    line : Line
    line = record { state = s; says = l }

    go : (o : Option AsmFaultKind) → fault_of all s l ≡ o → (m : Result (List ℕ) AsmFault) → MeansFrom all (lines_below (after s l) ls) (n + 1) m
        → MeansFrom all (line ∷ lines_below (after s l) ls) n (unless n o (with_front (bytes_of all s l) m))
    go (Some kind) f m h = (1, omega arith, record { above = []; line = line; below = lines_below (after s l) ls; parts = refl; number = refl; fault = f; none_above = no_lines all })
    go None f (Ok bytes) h = (All-cons (IsFaultless all) line (lines_below (after s l) ls) f h.0, ap (λ (rest : List ℕ). bytes_of all s l ++ rest) h.1)
    go None f (Err fault) h =
        let first = h.2 in (
          h.0 + 1,
          omega (arith, h.1),
          record {
            above = line ∷ first.above;
            line = first.line;
            below = first.below;
            parts = ap (λ (xs : List Line). line ∷ xs) first.parts;
            number = omega (arith, first.number);
            fault = first.fault;
            none_above = All-cons (IsFaultless all) line first.above f first.none_above;
          },
        )

bytes-coded : (all : List Definition) (n : ℕ) (s : State) (ls : List (Option SourceLine)) → All (IsFaultless all) (lines_below s ls) → coded all n s ls ≡ Ok (flat_map (line_bytes all) (lines_below s ls))
unfolding coded lines_below
bytes-coded all n s [] h = refl
bytes-coded all n s (l ∷ ls) h = grind (arith, (bytes-coded all (n + 1) (after s l) ls (All-tail (IsFaultless all) (record { state = s; says = l }) (lines_below (after s l) ls) h)), All-head, All-tail)

pub means_bytes : MeansBytes
unfolding meaning_of
means_bytes layout start ls bytes = grind (arith, means_from, bytes-coded)

-- ---- the first fault

fault-coded : (all : List Definition) (n : ℕ) (s : State) (ls : List (Option SourceLine)) (m : ℕ) (kind : AsmFaultKind) (above below : List Line) (line : Line)
    → lines_below s ls ≡ above ++ line ∷ below → m ≡ length above + n → fault_of all line.state line.says ≡ Some kind → All (IsFaultless all) above
    → coded all n s ls ≡ Err (record { line = m; kind = kind })
unfolding coded lines_below
fault-coded all n s [] m kind [] below line e number fault none = cc
fault-coded all n s [] m kind (x ∷ above) below line e number fault none = cc
fault-coded all n s (l ∷ ls) m kind [] below line e number fault none = grind arith
fault-coded all n s (l ∷ ls) m kind (x ∷ above) below line e number fault none =
    let here = All-head (IsFaultless all) x above none in
    let later : m ≡ length above + (n + 1) = omega arith in
    grind (arith, (fault-coded all (n + 1) (after s l) ls m kind above below line), (All-tail (IsFaultless all) x above none))

pub means_fault : MeansFault
unfolding meaning_of
means_fault layout start ls n kind = grind (arith, means_from, fault-coded)
