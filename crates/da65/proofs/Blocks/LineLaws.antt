-- Lines that follow each other: where they lead, what is known of names there, and their bytes.
use Rattle.std.proofs.Common.{arith, ◌≡◌, ℕ, ◌+◌, Bool, true, List, ◌∷◌, ◌++◌, map, Option, Some, None, refl, append_assoc, []}
use Rattle.std.specs.Prelude.{Result, Ok, Err}
use Rattle.std.proofs.lemmas.List.{map-append}
use Rattle.da65.specs.Words.{AsmFault, AsmFaultKind, Cpu, Knows, KnowsAll, ListingLine, AddressNames, is_base, reading_of_line}
use Rattle.stmt65.specs.Words.{Definition, SourceLine, State, after, bytes_of, coded, fault_of, final, free, unless, with_front}
use Rattle.da65.proofs.Blocks.Knowledge.{knows_same}
use Rattle.da65.proofs.Statements.StandsLaws.{Always}

-- the address and the CPU before a line, and the bases that are known there
pub record Point : Type 0 where
  pub at : ℕ
  pub cpu : Cpu
  pub knows : ℕ → Bool

abbrev pub point : ℕ → Cpu → (ℕ → Bool) → Point
point at cpu knows = record { at = at; cpu = cpu; knows = knows }

-- the state there, below these definitions
abbrev pub state : Point → List Definition → State
state p above = record { at = p.at; cpu = p.cpu; above = above; layout = free }

-- From the state at a point the lines lead to another; and in a text that defines all bases they give the bytes without a fault.
pub record Leads (m : AddressNames) (p : Point) (above : List Definition) (ls : List ListingLine) (bytes : List ℕ) (q : Point) : Type 0 where
  pub all_above : List Definition
  pub known : Knows m q.knows all_above
  pub reaches : final (state p above) (map reading_of_line ls) ≡ state q all_above
  pub codes : (all : List Definition) → Always (λ all. KnowsAll m all) all → (n : ℕ) → coded all n (state p above) (map reading_of_line ls) ≡ Ok bytes

-- the same from each state at the point
pub record Gives (m : AddressNames) (p : Point) (ls : List ListingLine) (bytes : List ℕ) (q : Point) : Type 0 where
  pub leads : (above : List Definition) → Knows m p.knows above → Leads m p above ls bytes q

pub gives_none : (m : AddressNames) (p : Point) → Gives m p [] [] p
unfolding final coded
gives_none m p = record { leads = λ above known. record { all_above = above; known = known; reaches = refl; codes = λ all k n. refl } }

-- ---- one after the other

final-append : (s : State) (xs ys : List (Option SourceLine)) → final s (xs ++ ys) ≡ final (final s xs) ys
unfolding final
final-append s [] ys = refl
final-append s (x ∷ xs) ys = final-append (after s x) xs ys

coded-append : (all : List Definition) (n : ℕ) (s : State) (xs ys : List (Option SourceLine)) (bs cs : List ℕ)
    → coded all n s xs ≡ Ok bs → ((k : ℕ) → coded all k (final s xs) ys ≡ Ok cs) → coded all n s (xs ++ ys) ≡ Ok (bs ++ cs)
unfolding coded final
coded-append all n s [] ys bs cs h g = let e : [] ≡ bs = cc in rw (← e) (g n)
coded-append all n s (x ∷ xs) ys bs cs h g =
    go (fault_of all s x) refl (coded all (n + 1) (after s x) xs) refl h (λ front f. coded-append all (n + 1) (after s x) xs ys front cs f g)
  where
    go : (o : Option AsmFaultKind) → fault_of all s x ≡ o → (r : Result (List ℕ) AsmFault) → coded all (n + 1) (after s x) xs ≡ r
        → unless n (fault_of all s x) (with_front (bytes_of all s x) (coded all (n + 1) (after s x) xs)) ≡ Ok bs
        → ((front : List ℕ) → coded all (n + 1) (after s x) xs ≡ Ok front → coded all (n + 1) (after s x) (xs ++ ys) ≡ Ok (front ++ cs))
        → unless n (fault_of all s x) (with_front (bytes_of all s x) (coded all (n + 1) (after s x) (xs ++ ys))) ≡ Ok (bs ++ cs)
    go None e (Ok front) f h ih =
        let h' = rw (e, f) at h in
        let k : bytes_of all s x ++ front ≡ bs = cc in
        rw (e, ih front f, ← append_assoc (bytes_of all s x) front cs, k) refl
    go None e (Err b) f h ih = let h' = rw (e, f) at h in absurd cc
    go (Some k) e r f h ih = let h' = rw e at h in absurd cc

pub gives_append : {m : AddressNames} {p q r : Point} {bs cs : List ℕ} (xs ys : List ListingLine) → Gives m p xs bs q → Gives m q ys cs r → Gives m p (xs ++ ys) (bs ++ cs) r
gives_append {m} {p} {q} {r} {bs} {cs} xs ys g h = grind (arith, map-append, final-append, coded-append)

-- ---- what is known, in other words

pub gives_to : {m : AddressNames} {p : Point} {at : ℕ} {cpu : Cpu} {knows : ℕ → Bool} {ls : List ListingLine} {bytes : List ℕ} (same : ℕ → Bool)
    → ((v : ℕ) → is_base m v ≡ true → knows v ≡ same v) → Gives m p ls bytes (point at cpu knows) → Gives m p ls bytes (point at cpu same)
gives_to {m} same is g = grind arith

pub gives_from : {m : AddressNames} {q : Point} {at : ℕ} {cpu : Cpu} {knows : ℕ → Bool} {ls : List ListingLine} {bytes : List ℕ} (same : ℕ → Bool)
    → ((v : ℕ) → is_base m v ≡ true → same v ≡ knows v) → Gives m (point at cpu knows) ls bytes q → Gives m (point at cpu same) ls bytes q
gives_from {m} same is g = record {
  leads = λ above known.
      let h = g.leads above (knows_same m same _ above known is) in
      record { all_above = h.all_above; known = h.known; reaches = h.reaches; codes = h.codes };
}
