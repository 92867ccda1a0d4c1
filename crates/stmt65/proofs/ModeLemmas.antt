-- The ways of a form are its modes, and which of them is taken.
use Rattle.std.specs.Prelude.{if◌then◌else◌, ◌&&◌, ◌||◌, ◌∷◌, ◌≡◌, is_some, not}
use Rattle.stmt65.proofs.Lemmas.{Bool, Decides-and, List, None, Option, Some, [], ap, arith, bytes_eq-Decides, false, map, refl, same_true, sameb, suc, sym, true, ℕ, ◌∙◌}
use Rattle.std.specs.Bool.{Decides}
use Rattle.std.specs.Str.{bytes_eq}
use Rattle.std.specs.List.{list_any}
use Rattle.stmt65.specs.Words.{Abs, Absindx, Absx, Absy, Acc, Cpu, Direct, EachWay, Fixed, Form, Fragment, HasMode, Imm, Imp, Ind, Indx, Indy, IsModeOf, IsWay, LacksForm, Mnemonic, Mode, ModesAreWays, NeedsMode, One, Plain, Rel, TakesMode, TakesModes, Way, WaysAreModes, Zp, Zpind, Zprel, Zpx, Zpy, coding, coding_len, encoded, first_way, form_text, has_prefix, is_short, is_way, len_of, mode_fragments, table_of, ways, written, zero_page_of}
use Rattle.isa65.specs.contracts.mode.Mode as mode
use Rattle.stmt65.proofs.Cases.{by_option, by_test}

pub false_true : {P : Type 0} → false ≡ true → P
false_true e = absurd (let no : ⊥ = cc in no)

-- ---- tests of the table, row by row

abbrev is_mode_of : Form → Mode → Bool
is_mode_of form x = bytes_eq (written x) (form_text form) && (not (has_prefix form) || is_some (zero_page_of x))

implied : (p q : Bool) → Decides (not p || q) (p ≡ true → q ≡ true)
implied true q = (λ e p. e, λ h. h refl)
implied false q = (λ e p. false_true p, λ h. refl)

mode_of : (form : Form) (x : Mode) → Decides (is_mode_of form x) (IsModeOf form x)
mode_of form x = Decides-and _ _ (bytes_eq-Decides (written x) (form_text form)) (implied (has_prefix form) (is_some (zero_page_of x)))

-- what is seen of a way, and what is wanted of it
abbrev seen : Form → Way → Bool × ℕ × List Fragment
seen form way = (is_mode_of form way.0, suc (coding_len way.1), way.1)

abbrev wanted : Bool → Form → Way → Bool × ℕ × List Fragment
wanted short form way = (true, len_of way.0, mode_fragments short form way.0)

pub each_way : {A : Type 0} (f g : Way → A) (ws : List Way) → map f ws ≡ map g ws → EachWay (λ way. f way ≡ g way) ws
each_way f g [] e = tt
each_way f g (w ∷ ws) e = (let same : f w ≡ g w = cc in same, each_way f g ws (let same : map f ws ≡ map g ws = cc in same))

each_wanted : (short : Bool) (form : Form) → map (seen form) (ways short form) ≡ map (wanted short form) (ways short form)
unfolding ways coding_len
each_wanted true (One (Plain Direct) v) = refl
each_wanted false (One (Plain Direct) v) = refl
each_wanted true _ = refl
each_wanted false _ = refl

abbrev is_first : Mode → List Way → Bool
is_first x [] = false
is_first x (way ∷ others) = is_way x way

-- of a zero-page mode and an absolute one that are written alike the one of the operand's size stands first
abbrev is_paired : Bool → Form → Mode → Option Mode → Bool
is_paired short form y None = true
is_paired short form y (Some x) = not (is_mode_of form x) || not (is_mode_of form y) || is_first (if short then x else y) (ways short form)

abbrev is_met : Bool → Form → Mode → Bool × Bool
is_met short form x = (not (is_mode_of form x) || list_any (is_way x) (ways short form), is_paired short form x (zero_page_of x))

abbrev modes : List Mode
modes = Imp ∷ Acc ∷ Imm ∷ Zp ∷ Zpx ∷ Zpy ∷ Abs ∷ Absx ∷ Absy ∷ Ind ∷ Indx ∷ Indy ∷ Zpind ∷ Absindx ∷ Rel ∷ Zprel ∷ []

each_met : (short : Bool) (form : Form) → map (is_met short form) modes ≡ map (λ x. (true, true)) modes
unfolding ways
each_met true (One (Plain Direct) v) = refl
each_met false (One (Plain Direct) v) = refl
each_met true _ = refl
each_met false _ = refl

at_mode : {A : Type 0} (f g : Mode → A) (xs : List Mode) (x : Mode) → list_any (λ y. sameb mode.the_type y x) xs ≡ true → map f xs ≡ map g xs → f x ≡ g x
at_mode f g [] x here e = false_true here
at_mode f g (y ∷ ys) x here e =
    by_test (sameb mode.the_type y x)
    (λ h. let same : f y ≡ g y = cc in rw (← same_true mode.the_type tt y x h) same)
    (λ h. at_mode f g ys x (rw h at here) (let same : map f ys ≡ map g ys = cc in same))

met : (short : Bool) (form : Form) (x : Mode) → is_met short form x ≡ (true, true)
met short form x = at_mode (is_met short form) (λ x. (true, true)) modes x (listed x) (each_met short form)
  where
    listed : (x : Mode) → list_any (λ y. sameb mode.the_type y x) modes ≡ true
    listed Imp = refl
    listed _ = refl

-- ---- the ways are the modes

each_as : (P Q : Way → Type 0) (ws : List Way) → ((way : Way) → P way → Q way) → EachWay P ws → EachWay Q ws
each_as P Q [] h each = tt
each_as P Q (w ∷ ws) h each = (h w each.0, each_as P Q ws h each.1)

pub ways_are_modes : WaysAreModes
ways_are_modes short form =
    each_as _ _ (ways short form)
    (λ way e. record { of_form = (mode_of form way.0).0 (ap (λ (p : Bool × ℕ × List Fragment). p.0) e); length = ap (λ (p : Bool × ℕ × List Fragment). p.1) e })
    (each_way (seen form) (wanted short form) (ways short form) (each_wanted short form))

pub modes_are_ways : ModesAreWays
modes_are_ways short form x h =
    let e : (not (is_mode_of form x) || list_any (is_way x) (ways short form)) ≡ true = ap (λ (p : Bool × Bool). p.0) (met short form x) in
    rw ((mode_of form x).1 h) at e

-- ---- a form that the mnemonic has not

none_missed : (cpu : Cpu) (m : Mnemonic) (ws : List Way) (x : Mode) → first_way cpu m ws ≡ None → list_any (is_way x) ws ≡ true → encoded (table_of cpu) m x ≡ None
none_missed cpu m [] x e f = false_true f
none_missed cpu m (w ∷ ws) x e f =
    by_option (encoded (table_of cpu) m w.0) (λ n g. let e' = rw g at e in absurd cc)
    (λ g. by_test (sameb mode.the_type w.0 x)
    (λ h. ap (encoded (table_of cpu) m) (sym (same_true mode.the_type tt w.0 x h)) ∙ g)
    (λ h. none_missed cpu m ws x (rw g at e) (rw h at f)))

none_found : (cpu : Cpu) (m : Mnemonic) (form : Form) (ws : List Way) → EachWay (IsWay form) ws → LacksForm cpu m form → first_way cpu m ws ≡ None
none_found cpu m form [] each lacks = refl
none_found cpu m form (w ∷ ws) each lacks = rw (lacks w.0 each.0.of_form) (none_found cpu m form ws each.1 lacks)

pub needs_mode : NeedsMode
unfolding coding
needs_mode s m form = grind (arith, none_missed, modes_are_ways, none_found, ways_are_modes)

-- ---- the mode that is taken

-- the way that gives these fragments: of each way P holds, and if the mnemonic has the mode of the first, that is taken
pub record IsTaken (cpu : Cpu) (m : Mnemonic) (P : Way → Type 0) (ws : List Way) (fragments : List Fragment) : Type 0 where
  pub way : Way
  pub opcode : ℕ
  pub holds : P way
  pub has : encoded (table_of cpu) m way.0 ≡ Some opcode
  pub coded : fragments ≡ Fixed opcode ∷ way.1
  pub first : (x : Mode) → is_first x ws ≡ true → HasMode cpu m x → way.0 ≡ x

pub taken : (cpu : Cpu) (m : Mnemonic) (P : Way → Type 0) (ws : List Way) (fragments : List Fragment) → EachWay P ws → first_way cpu m ws ≡ Some fragments → IsTaken cpu m P ws fragments
taken cpu m P [] fragments each e = absurd cc
taken cpu m P (w ∷ ws) fragments each e =
    by_option (encoded (table_of cpu) m w.0)
    (λ b g. let e' = rw g at e in record { way = w; opcode = b; holds = each.0; has = g; coded = cc; first = λ x h has. same_true mode.the_type tt w.0 x h })
    (λ g. let rest = taken cpu m P ws fragments each.1 (rw g at e) in
    record {
      way = rest.way;
      opcode = rest.opcode;
      holds = rest.holds;
      has = rest.has;
      coded = rest.coded;
      first = λ x h has. let none : encoded (table_of cpu) m x ≡ None = rw (← same_true mode.the_type tt w.0 x h) g in let has' = rw none at has in false_true has';
    })

not_its_own : (x : Mode) → zero_page_of x ≡ Some x → ⊥
not_its_own Imp e = cc
not_its_own _ e = cc

-- a zero-page mode and the absolute one that is written alike
pair_first : (short : Bool) (form : Form) (x y : Mode) → zero_page_of y ≡ Some x → IsModeOf form x → IsModeOf form y → is_first (if short then x else y) (ways short form) ≡ true
pair_first short form x y pair of_x of_y =
    let e : is_paired short form y (zero_page_of y) ≡ true = ap (λ (p : Bool × Bool). p.1) (met short form y) in
    rw (pair, (mode_of form x).1 of_x, (mode_of form y).1 of_y) at e

smaller : (short : Bool) (form : Form) (x y : Mode) → zero_page_of y ≡ Some x → IsModeOf form x → IsModeOf form y → (is_first y (ways short form) ≡ true → x ≡ y) → short ≡ true
smaller true form x y pair of_x of_y first = refl
smaller false form x y pair of_x of_y first = absurd (not_its_own y (rw (first (pair_first false form x y pair of_x of_y)) at pair))

larger : (short : Bool) (form : Form) (x y : Mode) → zero_page_of y ≡ Some x → IsModeOf form x → IsModeOf form y → (is_first x (ways short form) ≡ true → y ≡ x) → short ≡ false
larger false form x y pair of_x of_y first = refl
larger true form x y pair of_x of_y first = absurd (not_its_own x (rw (first (pair_first true form x y pair of_x of_y)) at pair))

pub takes_modes : TakesModes
unfolding coding
takes_modes s m form fragments e = go (is_short s.above form) refl
  where
    go : (short : Bool) → is_short s.above form ≡ short → TakesMode s.cpu s.above m form fragments
    go short is =
        let t = taken s.cpu m _ (ways short form) fragments (each_way (seen form) (wanted short form) (ways short form) (each_wanted short form)) (rw is at e) in
        let of_form = (mode_of form t.way.0).0 (ap (λ (p : Bool × ℕ × List Fragment). p.0) t.holds) in
        record {
          mode = t.way.0;
          opcode = t.opcode;
          of_form = of_form;
          has = t.has;
          coded = rw is (t.coded ∙ ap (λ (p : Bool × ℕ × List Fragment). Fixed t.opcode ∷ p.2) t.holds);
          short = λ y pair of_y has_y. is ∙ smaller short form t.way.0 y pair of_form of_y (λ f. t.first y f has_y);
          long = λ z pair of_z has_z. is ∙ larger short form z t.way.0 pair of_z of_form (λ f. t.first z f has_z);
        }
