-- The lines of groups that follow each other.
use Rattle.std.proofs.Common.{◌≡◌, ℕ, zero, suc, Bool, true, false, eqb, ◌+◌, ◌-◌, ◌<◌, ◌≤◌, List, ◌∷◌, ◌++◌, length, drop, take, Some, None, refl, sym, ap, subst, ◌∙◌, arith, ⊎_elim, []}
use Rattle.std.specs.Prelude.{◌||◌, if◌then◌else◌}
use Rattle.std.specs.List.{flat_map}
use Rattle.std.proofs.lemmas.Bool.{cases_lt, eqb-true, le-ltb}
use Rattle.std.proofs.lemmas.Bool.Decides.{nat_tests}
use Rattle.std.proofs.lemmas.List.{append-nil, drop-drop, drop_all, take-append-drop}
use Rattle.std.proofs.lemmas.List.Elements.{All-drop, All-take}
use Rattle.da65.specs.Words.{AreSound, Cpu, IsGroup, IsGroupPlace, Knows, KnowsAll, ListingLine, AddressNames, base_name, begins, ending_lines, forwards, group_bytes, group_len, group_line, group_lines, groups_from, is_base, labelled, names_of, opening_lines, plain, skips, statement_at, statement_lines, style_of}
use Rattle.stmt65.specs.Words.{Definition, Nothing, Operation, Statement, TakesLabel, defined_by, fits_label, operation_in, source_line}
use Rattle.stmt65.specs.Views as view
use Rattle.map65.specs.Words.{AreBytes, IsPlaced, MapView, bytes_from, end_of, opcodes, role_of}
use Rattle.da65.proofs.Blocks.EachLine.{each_ending, each_opening}
use Rattle.da65.proofs.Blocks.LineBlocks.{IsQuiet, Says, base_gives, defines_nothing, line_gives, nothing_stands, quiet_beside, quiet_gives}
use Rattle.da65.proofs.Blocks.LineLaws.{Gives, gives_append, gives_from, gives_none, gives_to, point, state}
use Rattle.da65.proofs.Blocks.NameBlocks.{forwards_give, forwards_to, names_to, no-constant}
use Rattle.da65.proofs.Groups.GroupLemmas.{begins-true, group-begun, groups-end, groups-next, place-next}
use Rattle.da65.proofs.Groups.ShapeLemmas.{group-index, groups_are_groups}
use Rattle.da65.proofs.Names.MapNames.{none-skipped}
use Rattle.da65.proofs.Statements.GroupStands.{group_stands_at}
use Rattle.da65.proofs.Statements.LabelLaws.{group_takes, label_read}
use Rattle.da65.proofs.Statements.StandsLaws.{Stands}

-- ---- what is known where a group begins and where it ends

group-begins : (m : AddressNames) (at v : ℕ) → names_to m at v ≡ forwards_to m at (at + 1) v
group-begins m at v = grind (arith, nat_tests)

-- a base that begins the group is not known before its label
not-yet : (m : AddressNames) (at u : ℕ) → m.has_constant at ≡ false → forwards_to m at u at ≡ false
not-yet m at u out = rw (out, le-ltb at at (omega arith)) refl

below-label : (m : AddressNames) (at n v : ℕ) → 0 < n → (forwards_to m at (at + 1 + (n - 1)) v || eqb at v) ≡ names_to m (at + n) v
below-label m at n v some = let k : at + 1 + (n - 1) ≡ at + n = omega arith in rw k (grind (arith, nat_tests))

without-label : (m : AddressNames) (at n v : ℕ) → 0 < n → is_base m at ≡ false → is_base m v ≡ true → forwards_to m at (at + 1 + (n - 1)) v ≡ names_to m (at + n) v
without-label m at n v some none base = grind (arith, forwards_to, names_to, eqb-true, nat_tests)

-- ---- one group

module _ (m : MapView) (names : AreSound m.image (names_of m)) (placed : IsPlaced m.image) (are : AreBytes m.image.bytes) where
  abbrev n : AddressNames
  n = names_of m

  abbrev cpu : Cpu
  cpu = m.info.settings.cpu

  module _ (a : ℕ) (is : begins m a ≡ true) where
    abbrev next : ℕ
    next = a + group_len m a

    abbrev end : ℕ
    end = a + 1 + (group_len m a - 1)

    group : IsGroup m a
    group = groups_are_groups m a is

    takes : TakesLabel (statement_at m a)
    takes = group_takes n (opcodes m) (role_of m.info a) a _ group.of

    low : m.image.start ≤ a
    low = (group-begun m a is).low

    room : next ≤ 65536
    room = omega (arith, group.room, placed.room)

    some : 0 < group_len m a
    some = omega (arith, group.some, group.long)

    stands : (knows : ℕ → Bool) → ((v : ℕ) → n.has_constant v ≡ true → knows v ≡ true) → (above : List Definition) → Knows n knows above
        → Stands (λ all. KnowsAll n all) (state (point a cpu knows) above) (operation_in (source_line (statement_at m a))) (group_bytes m a)
    stands knows sees above known =
        group_stands_at m.image n names knows (state (point a cpu knows) above) (role_of m.info a) (group_bytes m a) (record { knows = known; constants = sees })
        (All-take (λ b. b < 256) (group_len m a) (bytes_from m.image a) (All-drop (λ b. b < 256) (a - m.image.start) m.image.bytes are)) (omega (arith, group.long, room)) group.of

    -- the statement without its label
    unlabelled : (knows : ℕ → Bool) → ((v : ℕ) → n.has_constant v ≡ true → knows v ≡ true) → Gives n (point a cpu knows) (group_line None (statement_at m a) a (group_bytes m a) ∷ []) (group_bytes m a) (point next cpu knows)
    unlabelled knows sees =
        line_gives n (point a cpu knows) _ (Statement None (operation_in (source_line (statement_at m a)))) (group_bytes m a) next cpu knows (label_read (statement_at m a) None takes)
        (stands knows sees) (λ above known. defines_nothing n _ _ knows known) (omega (arith, group.long)) room

    module _ (base : is_base n a ≡ true) where
      out : n.has_constant a ≡ false
      out = no-constant m.image n a names base low (omega (arith, group.room, some))

      -- a line with the label, and its operation
      label_gives : (l : ListingLine) (o : Operation) (bytes : List ℕ) (at : ℕ) → Says l (Statement (Some (base_name n a)) o)
          → ((above : List Definition) → Knows n (forwards_to n a end) above → Stands (λ all. KnowsAll n all) (state (point a cpu (forwards_to n a end)) above) o bytes) → a + length bytes ≡ at → at ≤ 65536
          → Gives n (point a cpu (forwards_to n a end)) (l ∷ []) bytes (point at cpu (λ v. forwards_to n a end v || eqb a v))
      unfolding defined_by
      label_gives l o bytes at says stands to fits = base_gives m.image n (point a cpu (forwards_to n a end)) l (Statement (Some (base_name n a)) o) bytes at a names says stands base (not-yet n a end out) (rw out refl) to fits

      below : (fits : Bool) → Gives n (point a cpu (forwards_to n a end))
          (if fits then group_line (Some (base_name n a)) (statement_at m a) a (group_bytes m a) ∷ [] else plain (view.label (base_name n a)) ∷ group_line None (statement_at m a) a (group_bytes m a) ∷ [])
          (group_bytes m a) (point next cpu (λ v. forwards_to n a end v || eqb a v))
      below true = label_gives _ (operation_in (source_line (statement_at m a))) (group_bytes m a) next (label_read (statement_at m a) (Some (base_name n a)) takes) (stands (forwards_to n a end) (λ v h. rw h refl)) (omega (arith, group.long)) room
      below false =
          gives_append (plain (view.label (base_name n a)) ∷ []) (group_line None (statement_at m a) a (group_bytes m a) ∷ [])
          (label_gives _ Nothing [] a refl (λ above known. nothing_stands _ _) (omega arith) (omega (arith, room))) (unlabelled (λ v. forwards_to n a end v || eqb a v) (λ v h. rw h refl))

    statement_gives : Gives n (point a cpu (forwards_to n a end)) (statement_lines m a) (group_bytes m a) (point next cpu (names_to n next))
    unfolding statement_lines
    statement_gives = go (is_base n a) refl
      where
        go : (t : Bool) → is_base n a ≡ t → Gives n (point a cpu (forwards_to n a end)) (labelled (style_of m.info.settings).columns (if t then Some (base_name n a) else None) (statement_at m a) a (group_bytes m a)) (group_bytes m a) (point next cpu (names_to n next))
        go true base = gives_to (names_to n next) (λ v b. below-label n a (group_len m a) v some) (below base (fits_label (style_of m.info.settings).columns (base_name n a)))
        go false none = gives_to (names_to n next) (λ v b. without-label n a (group_len m a) v some none b) (unlabelled (forwards_to n a end) (λ v h. rw h refl))

    group_gives : Gives n (point a cpu (names_to n a)) (group_lines m a) (group_bytes m a) (point next cpu (names_to n next))
    unfolding group_lines
    group_gives =
        let front = quiet_gives n a cpu (names_to n a) (opening_lines m a) (each_opening m IsQuiet (quiet_beside m) a) (omega (arith, room)) in
        let inner = gives_from (names_to n a) (λ v b. group-begins n a v) (forwards_give m names a (omega (arith, room)) cpu (group_len m a - 1) (a + 1) low (omega arith) (omega (arith, some, group.room))) in
        let back = quiet_gives n next cpu (names_to n next) (ending_lines m a) (each_ending m IsQuiet (quiet_beside m) a) room in
        let all = gives_append (opening_lines m a) _ front (gives_append (forwards n a (group_len m a - 1) (a + 1)) _ inner (gives_append (statement_lines m a) (ending_lines m a) statement_gives back)) in
        subst (λ (bytes : List ℕ). Gives n (point a cpu (names_to n a)) (group_lines m a) bytes (point next cpu (names_to n next))) (append-nil (group_bytes m a)) all

  -- ---- the groups that are left

  module _ (none : skips m ≡ false) where
    -- the lines of the groups from the k-th byte on
    abbrev GivesRest : ℕ → Type 0
    GivesRest k = Gives n (point (m.image.start + k) cpu (names_to n (m.image.start + k))) (flat_map (group_lines m) (groups_from m k)) (drop k m.image.bytes) (point (end_of m.image) cpu (names_to n (end_of m.image)))

    end_gives : (k : ℕ) → k ≡ length m.image.bytes → GivesRest k
    end_gives k e = rw (groups-end m k e, drop_all k m.image.bytes (omega (arith, e)), e) (gives_none n (point (end_of m.image) cpu (names_to n (end_of m.image))))

    pub groups_give : (fuel k : ℕ) → length m.image.bytes ≤ k + fuel → IsGroupPlace m k → GivesRest k
    groups_give zero k enough here = end_gives k (omega (arith, enough, here.bound))
    groups_give (suc fuel) k enough here =
        ⊎_elim
        (λ low.
        let a : ℕ = m.image.start + k in
        let shown = none-skipped m k none low in
        let is : begins m a ≡ true = begins-true m k low shown here.group in
        let len : ℕ = group_len m a in
        let more : 0 < len = some a is in
        let place : a + len ≡ m.image.start + (k + len) = omega arith in
        let bytes : group_bytes m a ++ drop (k + len) m.image.bytes ≡ drop k m.image.bytes =
        ap (λ (front : List ℕ). front ++ drop (k + len) m.image.bytes) (group-index m k) ∙ ap (λ (rest : List ℕ). take len (drop k m.image.bytes) ++ rest) (sym (drop-drop len k m.image.bytes)) ∙ take-append-drop len (drop k m.image.bytes) in
        let first = rw place at (group_gives a is) in
        rw (groups-next m k here low shown, ← bytes) (gives_append (group_lines m a) _ first (groups_give fuel (k + len) (omega (arith, enough, more)) (place-next m k here low shown))))
        (λ past. end_gives k (omega (arith, past, here.bound)))
        (cases_lt k (length m.image.bytes))
