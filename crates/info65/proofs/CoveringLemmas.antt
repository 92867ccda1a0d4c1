-- Which of the names that cover an address is its name.
use Rattle.std.proofs.Common.{◌≡◌, ◌∙◌, ℕ, zero, suc, ◌+◌, ◌<◌, ◌≤◌, ◌&&◌, true, false, List, length, refl, ap, sym, arith}
use Rattle.std.specs.Prelude.{Option, Some, None, nat_le, nat_lt}
use Rattle.std.proofs.lemmas.Bool.{and_parts, false≢true}
use Rattle.std.proofs.lemmas.Bool.Decides.{nat_tests}
use Rattle.info65.specs.Words.{AreNames, CoversHighest, IsHighest, NameView, OwnAddressWins, blank_name, covering, covering_below, covers, name_at}
use Rattle.info65.proofs.Cases.{by_test, same_some}

-- the last of the first n names that cover the address
pub record Last (names : List NameView) (a n : ℕ) (v : NameView) : Type 0 where
  pub index : ℕ
  pub low : index < n
  pub covers_it : covers (name_at names index) a ≡ true
  pub is : v ≡ name_at names index
  pub later : (i : ℕ) → index < i → i < n → covers (name_at names i) a ≡ false

below_hits : (names : List NameView) (a n : ℕ) → covers (name_at names n) a ≡ true → covering_below names (suc n) a ≡ Some (name_at names n)
unfolding covering_below
below_hits names a n hit = rw hit refl

below_misses : (names : List NameView) (a n : ℕ) → covers (name_at names n) a ≡ false → covering_below names (suc n) a ≡ covering_below names n a
unfolding covering_below
below_misses names a n miss = rw miss refl

below_zero : (names : List NameView) (a : ℕ) → covering_below names 0 a ≡ None
unfolding covering_below
below_zero names a = refl

not_some : (v : NameView) → ◌≡◌ {A = Option NameView} None (Some v) → ⊥
not_some v is = absurd cc

some_below : (names : List NameView) (a n : ℕ) (v : NameView) → covering_below names n a ≡ Some v → Last names a n v
some_below names a zero v is = absurd (not_some v (sym (below_zero names a) ∙ is))
some_below names a (suc n) v is =
    by_test (covers (name_at names n) a)
    (λ hit. record { index = n; low = omega arith; covers_it = hit; is = sym (same_some (sym (below_hits names a n hit) ∙ is)); later = λ i after before. absurd (omega arith) })
    (λ miss.
    let r = some_below names a n v (sym (below_misses names a n miss) ∙ is) in
    record {
      index = r.index;
      low = omega (arith, r.low);
      covers_it = r.covers_it;
      is = r.is;
      later = λ i after before. grind (arith, miss, r.later i after);
    })

none_below : (names : List NameView) (a n : ℕ) → covering_below names n a ≡ None → (i : ℕ) → i < n → covers (name_at names i) a ≡ false
none_below names a zero is i below = absurd (omega arith)
none_below names a (suc n) is i below =
    by_test (covers (name_at names n) a)
    (λ hit. absurd (not_some _ (sym is ∙ below_hits names a n hit)))
    (λ miss. grind (arith, miss, none_below names a n (sym (below_misses names a n miss) ∙ is) i))

covering_is : (names : List NameView) (a : ℕ) → covering names a ≡ covering_below names (length names) a
unfolding covering
covering_is names a = refl

pub last_name : (names : List NameView) (a : ℕ) (v : NameView) → covering names a ≡ Some v → Last names a (length names) v
last_name names a v is = some_below names a (length names) v (sym (covering_is names a) ∙ is)

highest : (names : List NameView) → AreNames names → (a : ℕ) (v : NameView) → covering names a ≡ Some v → IsHighest names a v
highest names sorted a v is =
    let r = last_name names a v is in
    let own = ap (λ (x : NameView). x.address) r.is in
    record {
      index = r.index;
      low = r.low;
      is = r.is;
      covers_it = ap (λ (x : NameView). covers x a) r.is ∙ r.covers_it;
      highest = λ i here hit. grind (arith, own, hit, r.low, r.later i, sorted.rising i r.index blank_name);
    }

pub none_covers : (names : List NameView) (a : ℕ) → covering names a ≡ None → (i : ℕ) → i < length names → covers (name_at names i) a ≡ false
none_covers names a is = none_below names a (length names) (sym (covering_is names a) ∙ is)

pub covers_highest : CoversHighest
covers_highest names sorted = record { some = highest names sorted; none = none_covers names }

-- ---- an own address

covers_own : (low size : ℕ) → 1 ≤ size → (nat_le low low && nat_lt low (low + size)) ≡ true
covers_own low size some = grind (arith, nat_tests, some)

own_of : (names : List NameView) → AreNames names → (i : ℕ) → i < length names → (o : Option NameView) → covering names (name_at names i).address ≡ o → o ≡ Some (name_at names i)
own_of names sorted i here None is =
    let v = name_at names i in
    absurd (false≢true (sym (none_covers names v.address is i here) ∙ covers_own v.address v.size (sorted.each i blank_name here).sized))
own_of names sorted i here (Some b) is =
    let v = name_at names i in
    let r = last_name names v.address b is in
    let w = name_at names r.index in
    let begun = (and_parts (nat_le w.address v.address) (nat_lt v.address (w.address + w.size)) r.covers_it).0 in
    let below : w.address ≤ v.address = grind (arith, nat_tests, begun) in
    let own = covers_own v.address v.size (sorted.each i blank_name here).sized in
    grind (arith, r.is, r.low, below, own, r.later i, sorted.rising i r.index blank_name)

pub own_address_wins : OwnAddressWins
own_address_wins names sorted i here = own_of names sorted i here (covering names (name_at names i).address) refl
