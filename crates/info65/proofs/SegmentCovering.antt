-- The segment of an address is the one that contains it.
use Rattle.std.proofs.Common.{◌≡◌, ◌<◌, ℕ, zero, suc, List, [], ◌∷◌, true, false, ap, arith, length, refl}
use Rattle.std.specs.Prelude.{All, AllPairs, Option, Some, None, option_map}
use Rattle.std.specs.List.{find}
use Rattle.std.proofs.lemmas.List.Elements.{All-cons}
use Rattle.info65.specs.Words.{AreSegments, CoversOne, SegmentView, blank_segment, contains, segment_at, segment_covering}
use Rattle.info65.specs.Segments.{AreApart}
use Rattle.info65.proofs.Cases.{by_test}

rest_apart : (s : SegmentView) (ss : List SegmentView) → AllPairs AreApart (s ∷ ss) → AllPairs AreApart ss
rest_apart s ss apart = λ i j d lt l. apart (suc i) (suc j) d (omega (arith, lt)) (omega (arith, l))

-- a segment that contains the address is the one that is found
found : (segments : List SegmentView) (a k : ℕ) → AllPairs AreApart segments → k < length segments → contains (segment_at segments k) a ≡ true
    → find (λ s. contains s a) segments ≡ Some (segment_at segments k)
found [] a k apart low here = absurd (omega (arith, low))
found (s ∷ ss) a zero apart low here = rw here refl
found (s ∷ ss) a (suc k) apart low here =
    by_test (contains s a)
    (λ yes. absurd (apart 0 (suc k) blank_segment (omega arith) low a yes here))
    (λ no. rw no (found ss a k (rest_apart s ss apart) (omega (arith, low)) here))

pub covering_at : (segments : List SegmentView) (a k : ℕ) → AreSegments segments → k < length segments → contains (segment_at segments k) a ≡ true → segment_covering segments a ≡ Some (segment_at segments k).name
unfolding segment_covering
covering_at segments a k are low here = ap (λ (o : Option SegmentView). option_map (λ (s : SegmentView). s.name) o) (found segments a k are.apart low here)

pub covering_none : (segments : List SegmentView) (a : ℕ) → ((k : ℕ) → k < length segments → contains (segment_at segments k) a ≡ false) → segment_covering segments a ≡ None
unfolding segment_covering
covering_none [] a miss = refl
covering_none (s ∷ ss) a miss = let first : contains s a ≡ false = miss 0 (omega arith) in rw first (covering_none ss a (λ k low. miss (suc k) (omega (arith, low))))

-- ---- the law

record IsFound (segments : List SegmentView) (a : ℕ) (name : List ℕ) : Type 0 where
  place : ℕ
  low : place < length segments
  here : contains (segment_at segments place) a ≡ true
  named : name ≡ (segment_at segments place).name

some_found : (segments : List SegmentView) (a : ℕ) (name : List ℕ) → segment_covering segments a ≡ Some name → IsFound segments a name
unfolding segment_covering
some_found [] a name e = absurd cc
some_found (s ∷ ss) a name e =
    by_test (contains s a)
    (λ yes. let same : ◌≡◌ {A = Option (List ℕ)} (Some s.name) (Some name) = rw yes at e in record { place = 0; low = omega arith; here = yes; named = cc })
    (λ no. let f = some_found ss a name (rw no at e) in record { place = suc f.place; low = omega (arith, f.low); here = f.here; named = f.named })

none_found : (segments : List SegmentView) (a : ℕ) → segment_covering segments a ≡ None → All (λ s. contains s a ≡ false) segments
unfolding segment_covering
none_found [] a e = λ k d l. absurd (omega (arith, l))
none_found (s ∷ ss) a e =
    by_test (contains s a)
    (λ yes. let wrong : ◌≡◌ {A = Option (List ℕ)} (Some s.name) None = rw yes at e in absurd cc)
    (λ miss. All-cons (λ (t : SegmentView). contains t a ≡ false) s ss miss (none_found ss a (rw miss at e)))

pub one_contains : (segments : List SegmentView) (a i j : ℕ) → AreSegments segments → i < length segments → j < length segments → contains (segment_at segments i) a ≡ true → contains (segment_at segments j) a ≡ true → i ≡ j
one_contains segments a i j are li lj here there = grind (arith, are.apart i j blank_segment, are.apart j i blank_segment)

pub covers_one : CoversOne
covers_one segments are a = record {
  some = λ name e.
      let f = some_found segments a name e in
      record { place = f.place; low = f.low; contains_it = f.here; named = f.named; only = λ i low here. one_contains segments a i f.place are low f.low here f.here };
  none = λ e. none_found segments a e;
}
