-- Items that are marked in cells.
use Rattle.std.proofs.Common.{◌≡◌, ◌≢◌, ◌∙◌, ℕ, ◌+◌, ◌-◌, ◌/◌, ◌%◌, ◌<◌, ◌≤◌, ◌&&◌, nat_lt, not, Bool, true, false, Option, Some, List, length, get_or, set, ap, ap₂, sym, arith, ⊎_elim}
use Rattle.std.proofs.Math.Bool.{and_comm}
use Rattle.std.proofs.Math.ListN.{length-set}
use Rattle.std.proofs.lemmas.Bool.{and_parts, and_from, cases_eq, cases_lt, false≢true, lt-ltb, ltb-true, not-true}
use Rattle.std.specs.Cmp.{both_ways}
use Rattle.map65.specs.Words.{AreMarkedBelow, AreNamed, IsLaid, MapView, RangeType, are_one_run, bit, cell_of, end_of, is_border, is_cut, is_in_run, is_joined, is_joined_in, is_own, is_skip, is_wide, is_wide_cell, is_wide_role, item_len, item_start, lay_at, role_at, role_in_cell, role_of, size_at, with_len}
use Rattle.map65.proofs.CellLemmas.{named_test, cell-role, cell-wide, set-cell, with_len-lay, with_len-rest}
use Rattle.map65.proofs.ItemLaws.{Begun, begun}
use Rattle.map65.proofs.ItemLemmas.{in-run, is_cut_at, inside-if, item-len-own, item_start-after, item_start-apart, item_start-within, joined_high, joined-if, joined-run, joined-uncut, size-fits, size-is, size-positive, start-apart}
use Rattle.map65.proofs.RunLemmas.{plain-code, role_at-inside, run_cells, some_same}

-- ---- roles

-- a cell without a length holds its role
pub role_known : (m : MapView) (a at : ℕ) (cells : List ℕ) (o : Option RangeType) → at ≡ a → m.image.start ≤ a → a < end_of m.image → a < 65536 → AreMarkedBelow m a cells → o ≡ role_in_cell (get_or cells at 0) → o ≡ Some (role_of m.info a)
role_known m a at cells o place low high room old says = grind (arith, cell-role, role_at-inside)

pub role_here : (m : MapView) (a at : ℕ) (cells : List ℕ) (o : Option RangeType) (r : RangeType) → at ≡ a → m.image.start ≤ a → a < end_of m.image → a < 65536 → AreMarkedBelow m a cells → o ≡ role_in_cell (get_or cells at 0) → o ≡ Some r → r ≡ role_of m.info a
role_here m a at cells o r place low high room old says is = some_same r (role_of m.info a) (sym is ∙ role_known m a at cells o place low high room old says)

-- ---- pieces

module _ (m : MapView) (n a : ℕ) (cells : List ℕ) (old : AreMarkedBelow m n cells) (own : AreNamed (is_own m.info.names) cells) (room : end_of m.image ≤ 65536) (low : m.image.start ≤ n) (after : n < a) (high : a - 1 < end_of m.image) where
  -- the cells say where a run ends
  run-here : a < 65536 → are_one_run (get_or cells (a - 1) 0) (get_or cells a 0) ≡ is_in_run m a
  run-here below =
      run_cells m a (get_or cells (a - 1) 0) (get_or cells a 0) (omega (arith, after))
      (plain-code _ (role_at m (a - 1)) 0 (omega arith) (old.plain (a - 1) (omega (arith, room, high)) (omega (arith, after))))
      (plain-code _ (role_at m a) 0 (omega arith) (old.plain a below (omega (arith, after))))
      (old.borders.each a below)

  -- and where a given name cuts it
  cut-cell : a < end_of m.image → is_cut (get_or cells a 0) ≡ is_cut_at m a
  cut-cell last =
      let below : a < 65536 = omega (arith, room, last) in
      let wide : is_wide_cell (get_or cells a 0) ≡ is_wide (role_of m.info a) = cell-wide (get_or cells a 0) (role_at m a) 0 (omega arith) (old.plain a below (omega (arith, after))) ∙ ap is_wide_role (role_at-inside m a (omega (arith, low, after)) last) in
      ap₂ (λ p q. p && q) (named_test (is_own m.info.names) cells a own below) wide ∙ and_comm (is_own m.info.names a) (is_wide (role_of m.info a))

  joined-alike : is_joined_in cells a ≡ true → is_joined m a ≡ true
  unfolding is_joined_in
  joined-alike is =
      let outer = and_parts (nat_lt a (length cells)) (are_one_run (get_or cells (a - 1) 0) (get_or cells a 0) && not (is_cut (get_or cells a 0))) is in
      let inner = and_parts (are_one_run (get_or cells (a - 1) 0) (get_or cells a 0)) (not (is_cut (get_or cells a 0))) outer.1 in
      let run = sym (run-here (omega (arith, ltb-true a (length cells) outer.0, old.count))) ∙ inner.0 in
      joined-if m a run (sym (cut-cell (in-run m a run).high) ∙ not-true (is_cut (get_or cells a 0)) inner.1)

  alike-joined : is_joined m a ≡ true → is_joined_in cells a ≡ true
  unfolding is_joined_in
  alike-joined joined =
      let last : a < end_of m.image = joined_high m a joined in
      and_from _ _ (lt-ltb a (length cells) (omega (arith, room, last, old.count))) (and_from _ _ (run-here (omega (arith, room, last)) ∙ joined-run m a joined) (ap not (cut-cell last ∙ joined-uncut m a joined)))

  joined-cells : is_joined_in cells a ≡ is_joined m a
  joined-cells = both_ways (is_joined_in cells a) (is_joined m a) joined-alike alike-joined

-- the result of the test is whether the address is joined
pub joined_answer : (m : MapView) (n a at : ℕ) (cells : List ℕ) (answer b : Bool) → at ≡ a → AreMarkedBelow m n cells → AreNamed (is_own m.info.names) cells → end_of m.image ≤ 65536 → m.image.start ≤ n → n < a → a - 1 < end_of m.image → answer ≡ is_joined_in cells at → answer ≡ b → is_joined m a ≡ b
joined_answer m n a at cells answer b place old own room low after high says is =
    sym (joined-cells m n a cells old own room low after high) ∙ sym (ap (is_joined_in cells) place) ∙ sym says ∙ is

-- ---- sizes

pub item-small : (m : MapView) (a : ℕ) → item_len m a ≤ 4
unfolding item_len
item-small m a = grind (arith, size-is)

-- an item ends in the image
pub item_fits : (m : MapView) (a : ℕ) → 0 < item_len m a → a + item_len m a ≤ end_of m.image
item_fits m a some =
    let is = begun m a some in
    let k : ℕ = a - m.image.start in
    let place : m.image.start + k ≡ a = omega (arith, is.low) in
    let same : size_at m (m.image.start + k) ≡ size_at m a = ap (size_at m) place in
    omega (arith, size-fits m k (omega (arith, is.low, is.high)), same, is.len, place)

-- ---- where no item begins

no-item : (m : MapView) (a : ℕ) → (Begun m a → ⊥) → item_len m a ≡ 0
no-item m a not_begun = ⊎_elim (λ none. none) (λ some. absurd (not_begun (begun m a (omega (arith, some))))) (cases_eq (item_len m a) 0)

-- ---- the cells after one item more

-- an item at n, of so many bytes
pub next_begins : (m : MapView) (n len : ℕ) → item_start m n ≡ n → len ≡ size_at m n → item_start m (n + len) ≡ n + len
next_begins m n len begins is = let place : n + len ≡ n + size_at m n = omega (arith, is) in ap (item_start m) place ∙ item_start-after m n begins ∙ sym place

module _ (m : MapView) (n len : ℕ) (cells : List ℕ) (low : m.image.start ≤ n) (high : n < end_of m.image) (room : n < 65536) (begins : item_start m n ≡ n) (is : len ≡ size_at m n) (old : AreMarkedBelow m n cells) where
  inside-item : (a : ℕ) → n < a → a < n + len → item_len m a ≡ 0
  inside-item a after before = no-item m a (λ b. omega (arith, b.own, item_start-within m n a begins (omega (arith, after)) (omega (arith, is, before)), after))

  lay-none : (a : ℕ) → item_len m a ≡ 0 → lay_at m a ≡ cell_of (role_at m a) 0
  lay-none a none = ap (cell_of (role_at m a)) none

  elsewhere : (a : ℕ) → a ≢ n → a < 65536 → a < n + len → get_or cells a 0 % 128 ≡ lay_at m a
  elsewhere a other below before =
      ⊎_elim
      (λ earlier. old.marked a below earlier)
      (λ later. old.plain a below later ∙ sym (lay-none a (inside-item a (omega (arith, other, later)) before)))
      (cases_lt a n)

  item-here : is_skip (role_of m.info n) ≡ false → item_len m n ≡ len
  item-here shown = item-len-own m n (inside-if m n low high) shown begins ∙ sym is

  here-plain : get_or cells n 0 % 128 ≡ cell_of (role_at m n) 0
  here-plain = old.plain n room (omega arith)

  len-fits : len < 8
  len-fits = omega (arith, is, size-is m n)

  pub item_marked : (c : ℕ) → c ≡ with_len (get_or cells n 0) len → is_skip (role_of m.info n) ≡ false → AreMarkedBelow m (n + len) (set cells n c)
  item_marked c cell shown =
      let lt : n < length cells = omega (arith, old.count, room) in
      let here : c % 128 ≡ lay_at m n = ap (λ (x : ℕ). x % 128) cell ∙ with_len-lay (get_or cells n 0) (role_at m n) len len-fits here-plain ∙ ap (cell_of (role_at m n)) (sym (item-here shown)) in
      record {
        count = length-set cells n c ∙ old.count;
        borders = record {
          each = set-cell (λ a x. x / 256 ≡ bit (is_border m.info.segments a)) cells n c lt
              (ap (λ (x : ℕ). x / 256) cell ∙ omega (arith, with_len-rest (get_or cells n 0) (role_at m n) len len-fits here-plain) ∙ old.borders.each n room)
              (λ a below other. old.borders.each a below);
        };
        marked = set-cell (λ a x. a < n + len → x % 128 ≡ lay_at m a) cells n c lt (λ before. here) (λ a below other before. elsewhere a other below before);
        plain = set-cell (λ a x. n + len ≤ a → x % 128 ≡ cell_of (role_at m a) 0) cells n c lt
            (λ after. absurd (omega (arith, after, size-positive m n, is)))
            (λ a below other after. old.plain a below (omega (arith, after)));
      }

  pub item_named : (p : ℕ → Bool) (c : ℕ) → c ≡ with_len (get_or cells n 0) len → AreNamed p cells → AreNamed p (set cells n c)
  item_named p c cell named =
      let lt : n < length cells = omega (arith, old.count, room) in
      record {
        each = set-cell (λ a x. x / 128 % 2 ≡ bit (p a)) cells n c lt
            (ap (λ (x : ℕ). x / 128 % 2) cell ∙ ap (λ (x : ℕ). x % 2) (with_len-rest (get_or cells n 0) (role_at m n) len len-fits here-plain) ∙ named.each n room)
            (λ a below other. named.each a below);
      }

  pub skip_marked : is_skip (role_of m.info n) ≡ true → AreMarkedBelow m (n + len) cells
  skip_marked skip = record {
    count = old.count;
    marked = λ a below before.
        ⊎_elim
        (λ same. rw same (old.plain n room (omega arith) ∙ sym (lay-none n (no-item m n (λ b. false≢true (sym b.shown ∙ skip))))))
        (λ other. elsewhere a other below before)
        (cases_eq a n);
    plain = λ a below after. old.plain a below (omega (arith, after));
    borders = old.borders;
  }

-- ---- before the first item, and after the last

pub first_begins : (m : MapView) (n : ℕ) → n ≡ m.image.start → item_start m n ≡ n
first_begins m n is = item_start-apart m n (start-apart m n is)

pub marked_none : (m : MapView) (n : ℕ) (cells : List ℕ) → n ≡ m.image.start → AreMarkedBelow m 0 cells → AreMarkedBelow m n cells
marked_none m n cells is old = grind (arith, no-item)

pub all_marked : (m : MapView) (n : ℕ) (cells : List ℕ) → end_of m.image ≤ n → AreMarkedBelow m n cells → IsLaid m cells
all_marked m n cells past old = grind (arith, no-item)
