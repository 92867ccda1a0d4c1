-- Names that are marked in cells.
use Rattle.std.proofs.Common.{◌≡◌, ◌∙◌, ℕ, ◌+◌, ◌/◌, ◌%◌, ◌<◌, ◌≤◌, ◌&&◌, ◌||◌, ◌==◌, Bool, true, false, zero, suc, List, [], ◌∷◌, ◌++◌, Option, Some, None, is_some, length, get_or, max, nat_le, nat_lt, refl, ap, sym, subst, arith, ⊎_elim, if◌then◌else◌}
use Rattle.std.specs.List.{list_any}
use Rattle.std.proofs.Math.Bool.{or-false}
use Rattle.std.proofs.lemmas.Bool.{and_from, and_parts, both_ways, cases_Bool, cases_eq, cases_lt, cond-false, cond-true, cond_both, eqb-true, false≢true, le-leb, leb-true, lt-ltb, or_left, or_right}
use Rattle.std.proofs.lemmas.List.{get_or_default, take_all}
use Rattle.std.proofs.lemmas.List.FromFn.{get_or-range_with_len, length-range_with_len}
use Rattle.std.proofs.lemmas.List.Folds.{Any-from_list_any, list_any_at, list_any_kept, list_any_more}
use Rattle.std.specs.Cmp.{both_ways as equal}
use Rattle.info65.specs.Words.{AreNames, NameView, blank_name, covering, covers, name_at}
use Rattle.info65.proofs.Public.{last_name, none_covers}
use Rattle.map65.specs.Words.{AreCells, AreCellsOf, AreNamed, Changes, IsLaid, KeepsLay, MapView, RangeType, Reaches, Skip, addresses, bit, changed, code_of, end_of, entry_start, has_name, is_covered, is_covered_below, is_inside, is_own, is_referenced, is_referenced_below, is_skip, is_wide, is_wide_cell, is_wide_role, is_within, item_len, item_start, len_in_cell, nowhere, refers, refers_by, role_at, role_in_cell, role_of, target_at, with_name}
use Rattle.map65.proofs.CellLemmas.{named-as, cell-len, cell-role, cell-wide, with_name_again, with_name-bit, with_name-border, with_name-lay}
use Rattle.map65.proofs.ChangeLemmas.{changes_as, changes_more, changes_none, changes_then}
use Rattle.map65.proofs.NameLemmas.{named-is}
use Rattle.map65.proofs.RunLemmas.{plain-code, role_at-inside}
use Rattle.map65.proofs.ItemLaws.{begun, start-len}
use Rattle.map65.proofs.ItemLemmas.{belongs, item_start-within, size-positive}
use Rattle.map65.proofs.MarkingLemmas.{item_fits, item-small}

-- ---- one bit

changed-lay : (t : Bool) (c : ℕ) → changed with_name t c % 128 ≡ c % 128
changed-lay true c = with_name-lay c
changed-lay false c = refl

changed-border : (t : Bool) (c : ℕ) → changed with_name t c / 256 ≡ c / 256
changed-border true c = with_name-border c
changed-border false c = refl

changed-bit : (p q : Bool) (c : ℕ) → c / 128 % 2 ≡ bit p → changed with_name q c / 128 % 2 ≡ bit (p || q)
changed-bit p true c is = with_name-bit c ∙ ap bit (sym (or_right p true refl))
changed-bit p false c is = is ∙ ap bit (sym (or-false p))

pub names_keep : (p : ℕ → Bool) (old new : List ℕ) → Changes with_name p old new → KeepsLay old new
names_keep p old new h = grind (arith, changed-lay, changed-border)

pub names_added : (p q : ℕ → Bool) (old new : List ℕ) → Changes with_name q old new → AreNamed p old → AreNamed (λ a. p a || q a) new
names_added p q old new h named = record { each = λ a room. ap (λ (x : ℕ). x / 128 % 2) (h.each a room) ∙ changed-bit (p a) (q a) (get_or old a 0) (named.each a room) }

pub laid_keeps : (m : MapView) (old new : List ℕ) → KeepsLay old new → IsLaid m old → IsLaid m new
laid_keeps m old new keeps laid = grind arith

-- ---- names that cover addresses

covers-is : (n : NameView) (a : ℕ) → n.address ≤ a → a < n.address + n.size → covers n a ≡ true
covers-is n a low high = and_from _ _ (le-leb n.address a low) (lt-ltb a (n.address + n.size) high)

covered-by : (names : List NameView) (i a : ℕ) → i < length names → covers (name_at names i) a ≡ true → (o : Option NameView) → covering names a ≡ o → is_some o ≡ true
covered-by names i a low hit None is = absurd (both_ways _ (none_covers names a is i low) hit)
covered-by names i a low hit (Some v) is = refl

covered-some : (names : List NameView) (a : ℕ) (o : Option NameView) → covering names a ≡ o → is_some o ≡ true → list_any (λ v. covers v a) names ≡ true
covered-some names a None is some = absurd (false≢true some)
covered-some names a (Some v) is some = let r = last_name names a v is in list_any_at (λ v. covers v a) names r.index blank_name r.low r.covers_it

-- an address is covered if a name covers it
covered-is : (names : List NameView) (a : ℕ) → list_any (λ v. covers v a) names ≡ is_covered names a
covered-is names a =
    equal (list_any (λ v. covers v a) names) (is_covered names a)
    (λ is. let found = Any-from_list_any (λ v. covers v a) names is in
    covered-by names found.0 a found.2 (ap (λ v. covers v a) (get_or_default names found.0 blank_name found.1 found.2 ∙ found.3) ∙ found.4) (covering names a) refl)
    (covered-some names a (covering names a) refl)

-- one name more, of which addresses below `reach` are marked
module _ (names : List NameView) (are : AreNames names) (i reach : ℕ) (below : i < length names) (reaches : Reaches names i reach) where
  earlier : (a : ℕ) → (name_at names i).address ≤ a → (j : ℕ) → j < i → (name_at names j).address ≤ a
  earlier a low j before = omega (arith, low, are.rising j i blank_name before below)

  covered-more : (a : ℕ) → is_covered_below names (i + 1) a ≡ (is_covered_below names i a || covers (name_at names i) a)
  covered-more a = list_any_more (λ v. covers v a) names i blank_name below

  pub reaches_more : Reaches names (i + 1) (max reach ((name_at names i).address + (name_at names i).size))
  reaches_more a low high =
      ⊎_elim
      (λ within. list_any_kept (λ v. covers v a) names i (reaches a (λ j before. low j (omega (arith, before))) within))
      (λ past. covered-more a ∙ or_right _ _ (covers-is (name_at names i) a (low i (omega arith)) (omega (arith, high, past))))
      (cases_lt a reach)

  -- where none of the names before covers an address, the span from the reach on covers it as the name does
  span-is : (a : ℕ) → is_covered_below names i a ≡ false → nat_le (max (name_at names i).address reach) a ≡ nat_le (name_at names i).address a
  span-is a none =
      equal (nat_le (max (name_at names i).address reach) a) (nat_le (name_at names i).address a)
      (λ is. le-leb _ a (omega (arith, leb-true (max (name_at names i).address reach) a is)))
      (λ is.
      let low = leb-true (name_at names i).address a is in
      ⊎_elim
      (λ within. absurd (both_ways (is_covered_below names i a) none (reaches a (earlier a low) within)))
      (λ past. le-leb _ a (omega (arith, low, past)))
      (cases_lt a reach))

  span-covers : (a : ℕ) → (is_covered_below names i a || is_within (max (name_at names i).address reach) ((name_at names i).address + (name_at names i).size) a) ≡ is_covered_below names (i + 1) a
  span-covers a =
      ⊎_elim
      (λ some. or_left _ _ some ∙ sym (covered-more a ∙ or_left _ _ some))
      (λ none. ap (λ w. is_covered_below names i a || (w && nat_lt a ((name_at names i).address + (name_at names i).size))) (span-is a none) ∙ sym (covered-more a))
      (cases_Bool (is_covered_below names i a))

  pub covered_next : (old mid new : List ℕ) → Changes with_name (is_covered_below names i) old mid → Changes with_name (is_within (max (name_at names i).address reach) ((name_at names i).address + (name_at names i).size)) mid new → Changes with_name (is_covered_below names (i + 1)) old new
  covered_next old mid new first second =
      changes_as with_name _ (is_covered_below names (i + 1)) old new (λ a room. span-covers a)
      (changes_then with_name with_name_again (is_covered_below names i) (is_within (max (name_at names i).address reach) ((name_at names i).address + (name_at names i).size)) old mid new first second)

pub reaches_none : (names : List NameView) (reach : ℕ) → reach ≡ 0 → Reaches names 0 reach
reaches_none names reach is a low high = absurd (omega arith)

-- a name covers its own address
own-covered : (names : List NameView) → AreNames names → (a : ℕ) → is_own names a ≡ true → is_covered names a ≡ true
unfolding is_own
own-covered names are a is =
    let found = Any-from_list_any (λ (n : NameView). n.address == a) names is in
    let n : NameView = found.1 in
    let here : n.address ≡ a = eqb-true n.address a found.4 in
    let sized = (are.each found.0 n found.2).sized in
    let same : get_or names found.0 n ≡ n = found.3 in
    let covers_it : covers n a ≡ true = covers-is n a (omega (arith, here)) (omega (arith, here, ap (λ (v : NameView). v.size) same, sized)) in
    sym (covered-is names a) ∙ list_any_at (λ v. covers v a) names found.0 n found.2 (ap (λ (v : NameView). covers v a) same ∙ covers_it)

pub covered_end : (names : List NameView) (n : ℕ) (old new : List ℕ) → AreNames names → length names ≤ n → AreNamed (is_own names) old → Changes with_name (is_covered_below names n) old new → AreNamed (is_covered names) new
covered_end names n old new are all named h =
    named-as (λ a. is_own names a || is_covered_below names n a) (is_covered names) new
    (λ a room.
    ap (λ l. is_own names a || list_any (λ v. covers v a) l) (take_all n names all)
    ∙ ap (λ b. is_own names a || b) (covered-is names a)
    ∙ absorbed (is_own names a) (is_covered names a) (own-covered names are a))
    (names_added (is_own names) (is_covered_below names n) old new h named)
  where
    absorbed : (p q : Bool) → (p ≡ true → q ≡ true) → (p || q) ≡ q
    absorbed true q given = sym (given refl)
    absorbed false q given = refl

-- ---- what laid cells hold

laid-small : (m : MapView) (a : ℕ) → item_len m a < 8
laid-small m a = omega (arith, item-small m a)

pub laid_plain : (m : MapView) (cells : List ℕ) (a : ℕ) → IsLaid m cells → a < 65536 → get_or cells a 0 % 16 ≡ code_of (role_at m a)
laid_plain m cells a laid room = plain-code (get_or cells a 0) (role_at m a) (item_len m a) (laid-small m a) (laid.each a room)

pub laid_role : (m : MapView) (cells : List ℕ) (a : ℕ) → IsLaid m cells → a < 65536 → role_in_cell (get_or cells a 0) ≡ role_at m a
laid_role m cells a laid room = cell-role (get_or cells a 0) (role_at m a) (item_len m a) (laid-small m a) (laid.each a room)

pub laid_len : (m : MapView) (cells : List ℕ) (a : ℕ) → IsLaid m cells → a < 65536 → len_in_cell (get_or cells a 0) ≡ item_len m a
laid_len m cells a laid room = cell-len (get_or cells a 0) (role_at m a) (item_len m a) (laid-small m a) (laid.each a room)

pub ruleset laid_cells = (laid_plain, laid_role, laid_len)

-- the cells of a map describe its addresses
pub described : (m : MapView) (cells : List ℕ) → AreCells m cells → AreCellsOf m cells
unfolding len_in_cell
described m cells are = grind (arith, laid_plain, laid_len)

laid-wide : (m : MapView) (cells : List ℕ) (a : ℕ) → IsLaid m cells → a < 65536 → is_wide_cell (get_or cells a 0) ≡ is_wide_role (role_at m a)
laid-wide m cells a laid room = cell-wide (get_or cells a 0) (role_at m a) (item_len m a) (laid-small m a) (laid.each a room)

-- ---- the first byte of an item

pub wide-shown : (r : RangeType) → is_wide r ≡ true → is_skip r ≡ false
wide-shown Skip is = absurd (false≢true is)
wide-shown _ is = refl

wide-inside : (inside : Bool) (r : RangeType) → is_wide_role (if inside then Some r else None) ≡ (inside && is_wide r)
wide-inside true r = refl
wide-inside false r = refl

wide-at : (m : MapView) (a : ℕ) → is_wide_role (role_at m a) ≡ (is_inside m.image a && is_wide (role_of m.info a))
unfolding role_at
wide-at m a = wide-inside (is_inside m.image a) (role_of m.info a)

pub entry_start-wide : (m : MapView) (a : ℕ) → (is_inside m.image a && is_wide (role_of m.info a)) ≡ true → entry_start m a ≡ item_start m a
unfolding entry_start
entry_start-wide m a is = cond-true (is_inside m.image a && is_wide (role_of m.info a)) (item_start m a) a is

pub entry_start-narrow : (m : MapView) (a : ℕ) → (is_inside m.image a && is_wide (role_of m.info a)) ≡ false → entry_start m a ≡ a
unfolding entry_start
entry_start-narrow m a is = cond-false (is_inside m.image a && is_wide (role_of m.info a)) (item_start m a) a is

pub entry_start_low : (m : MapView) (a : ℕ) → entry_start m a ≤ a
unfolding entry_start
entry_start_low m a = cond_both (is_inside m.image a && is_wide (role_of m.info a)) (item_start m a) a (λ n. n ≤ a) (λ _. (belongs m a).low) (λ _. omega arith)

pub entry_start_here : (m : MapView) (cells : List ℕ) (a : ℕ) → IsLaid m cells → a < 65536 → is_wide_cell (get_or cells a 0) ≡ false → entry_start m a ≡ a
entry_start_here m cells a laid room is = entry_start-narrow m a (sym (wide-at m a) ∙ sym (laid-wide m cells a laid room) ∙ is)

-- a wide address of the image, and one before it that is not before the item that has the former
module _ (m : MapView) (cells : List ℕ) (a at : ℕ) (laid : IsLaid m cells) (room : a < 65536) (is : is_wide_cell (get_or cells a 0) ≡ true) (low : entry_start m a ≤ at) (high : at ≤ a) where
  wide-here : (is_inside m.image a && is_wide (role_of m.info a)) ≡ true
  wide-here = sym (wide-at m a) ∙ sym (laid-wide m cells a laid room) ∙ is

  start-is : entry_start m a ≡ item_start m a
  start-is = entry_start-wide m a wide-here

  -- where no item begins the search goes on before it
  pub entry_start_before : item_len m at ≡ 0 → entry_start m a < at
  entry_start_before none =
      let parts = and_parts (is_inside m.image a) (is_wide (role_of m.info a)) wide-here in
      let len = start-len m a parts.0 (wide-shown (role_of m.info a) parts.1) in
      ⊎_elim
      (λ same. absurd (omega (arith, len, size-positive m (item_start m a), ap (item_len m) (sym start-is ∙ same), none)))
      (λ other. omega (arith, low, other))
      (cases_eq (entry_start m a) at)

  -- and else it is found
  pub entry_start_found : 0 < item_len m at → at ≡ entry_start m a
  entry_start_found some =
      let h = belongs m a in
      sym (begun m at some).own ∙ item_start-within m (item_start m a) at h.own (omega (arith, low, start-is)) (omega (arith, h.high, high)) ∙ sym start-is

-- ---- targets

pub refers_none : (m : MapView) (item : ℕ) (cells : List ℕ) → length cells ≡ 65536 → target_at m item ≡ None → Changes with_name (λ a. refers m a item) cells cells
unfolding refers
refers_none m item cells count is = changes_as with_name nowhere (λ a. refers_by m (target_at m item) a) cells cells (λ a room. ap (λ o. refers_by m o a) (sym is)) (changes_none with_name cells count)

-- a target and the first byte of its item are marked
pub refers_some : (m : MapView) (item t h : ℕ) (old mid new : List ℕ) → target_at m item ≡ Some t → h ≡ entry_start m t → Changes with_name (λ a. t == a) old mid → Changes with_name (λ a. h == a) mid new → Changes with_name (λ a. refers m a item) old new
unfolding refers
refers_some m item t h old mid new is at first second = grind (arith, with_name_again)

pub address-at : (n k a d : ℕ) → k < n → get_or (addresses n a) k d ≡ a + k
unfolding addresses
address-at n k a d below = get_or-range_with_len a n k d below

pub address-count : (n a : ℕ) → length (addresses n a) ≡ n
unfolding addresses
address-count n a = length-range_with_len a n

-- one address more
pub addresses_more : (n a : ℕ) → addresses (n + 1) a ≡ addresses n a ++ (a + n) ∷ []
unfolding addresses
addresses_more zero a = let none : a + 0 ≡ a = omega arith in rw none (λ i. a ∷ [])
addresses_more (suc n) a = grind (arith, (addresses_more n (a + 1)))

-- the target of one item more
pub referenced_next : (m : MapView) (k item : ℕ) (old mid new : List ℕ) → k < length m.image.bytes → item ≡ m.image.start + k → Changes with_name (is_referenced_below m k) old mid → Changes with_name (λ a. refers m a item) mid new → Changes with_name (is_referenced_below m (k + 1)) old new
referenced_next m k item old mid new low is first second =
    let all : List ℕ = addresses (length m.image.bytes) m.image.start in
    let here : item ≡ get_or all k 0 = is ∙ sym (address-at (length m.image.bytes) k m.image.start 0 low) in
    changes_more with_name with_name_again (λ (x a : ℕ). refers m a x) all k 0 old mid new (omega (arith, low, address-count (length m.image.bytes) m.image.start)) first
    (subst (λ (x : ℕ). Changes with_name (λ a. refers m a x) mid new) here second)

-- an address has a name if a given name covers it or an item refers to it
pub referenced_end : (m : MapView) (n : ℕ) (old new : List ℕ) → length m.image.bytes ≤ n → AreNamed (is_covered m.info.names) old → Changes with_name (is_referenced_below m n) old new → AreNamed (has_name m) new
unfolding is_referenced
referenced_end m n old new all named h =
    named-as (λ a. is_covered m.info.names a || is_referenced_below m n a) (has_name m) new
    (λ a room. ap (λ l. is_covered m.info.names a || list_any (refers m a) l) (take_all n (addresses (length m.image.bytes) m.image.start) (omega (arith, all, address-count (length m.image.bytes) m.image.start))) ∙ sym (named-is m a))
    (names_added (is_covered m.info.names) (is_referenced_below m n) old new h named)

-- ---- the item that a cell holds

pub laid_known : (m : MapView) (cells : List ℕ) (a c : ℕ) (o : Option RangeType) → IsLaid m cells → a < 65536 → m.image.start ≤ a → a < end_of m.image → c ≡ get_or cells a 0 → o ≡ role_in_cell c → o ≡ Some (role_of m.info a)
laid_known m cells a c o laid room low high cell says = says ∙ ap role_in_cell cell ∙ laid_role m cells a laid room ∙ role_at-inside m a low high

pub laid_item : (m : MapView) (cells : List ℕ) (a c n : ℕ) → IsLaid m cells → a < 65536 → c ≡ get_or cells a 0 → n ≡ len_in_cell c → n ≡ item_len m a
laid_item m cells a c n laid room cell says = says ∙ ap len_in_cell cell ∙ laid_len m cells a laid room

pub laid_fits : (m : MapView) (a n : ℕ) → a < end_of m.image → n ≡ item_len m a → a + n ≤ end_of m.image
laid_fits m a n high is = grind (arith, item_fits)
