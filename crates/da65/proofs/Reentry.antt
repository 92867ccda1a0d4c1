-- Which groups are left to decide whether a segment is entered again.
use Rattle.std.proofs.Common.{arith, ◌≡◌, ◌∙◌, ◌+◌, ◌<◌, ◌-◌, ◌||◌, ◌&&◌, ◌⊎◌, not, ℕ, Bool, List, ◌∷◌, true, false, ap, length, map, refl, subst, sym, ⊎_elim, []}
use Rattle.std.specs.BTreeMap as tree
use Rattle.std.specs.BTreeMap.{BTreeMap}
use Rattle.std.specs.Borrow.{Bor}
use Rattle.std.specs.Cmp.Lexicographic.{slice_cmp}
use Rattle.std.specs.Ordering.{nat_cmp}
use Rattle.std.specs.Prelude.{None, Option, Some}
use Rattle.std.specs.Option.{option_copied}
use Rattle.std.specs.Str.{bytes_eq}
use Rattle.std.proofs.lemmas.Bool.{cases_Bool, cases_eq, cond-false, cond-true, true≢false}
use Rattle.std.proofs.lemmas.Map.Text.{btree_map_updates_str}
use Rattle.std.proofs.lemmas.Slice.Eq.{bytes_eq-Decides}
use Rattle.info65.specs.Words.{InfoView, segment_seen}
use Rattle.map65.specs.Words.{ImageView, MapView, is_in_run, is_skip, left_at, role_of, segment_at}
use Rattle.map65.proofs.Public.{in-run, joined-run}
use Rattle.da65.specs.Words.{AreEnteredBefore, Entered, IsAfter, SegmentSpec, begins, enters_again, group_addresses, groups_from, has_had, has_name, is_among, is_entered_again, is_same_segment, leads_back, segment_before, segment_name, stride_at}
use Rattle.da65.proofs.Groups.GroupLemmas.{begins-skip, begins-true, groups-end, groups-first, groups-step, holder, stride-group, stride-skip}
use Rattle.da65.proofs.Groups.InsideLemmas.{group-piece}
use Rattle.da65.proofs.NextLine.SegmentLemmas.{bare-segment, segment-after, segment-first, segment-in-run, segment-itself, segment-skip}

enters-step : (last s : Option (List ℕ)) (had : List (List ℕ)) (ss : List (Option (List ℕ))) → enters_again last had (s ∷ ss) ≡ (leads_back last had s || enters_again s (segment_name s ∷ had) ss)
unfolding enters_again
enters-step last s had ss = refl

enters-none : (last : Option (List ℕ)) (had : List (List ℕ)) → enters_again last had [] ≡ false
unfolding enters_again
enters-none last had = refl

-- one name more
pub name_added : {X : Type 0} (name : List ℕ) (old new : BTreeMap (Bor (List ℕ)) X) (v : X) → tree.UpdatesBy (λ x y. slice_cmp nat_cmp x.now y.now) (λ k. slice_cmp nat_cmp name k.now) old new (Some v) → (t : List ℕ) → has_name new t ≡ (bytes_eq name t || has_name old t)
name_added name old new v after t = grind (arith, (btree_map_updates_str name old new (Some v) after t))

-- ---- where groups begin

-- with the k-th byte a run begins, and a group of this segment
pub record IsFirstGroup (m : MapView) (k : ℕ) (s : Option (List ℕ)) : Type 0 where
  pub low : k < length m.image.bytes
  pub shown : is_skip (role_of m.info (m.image.start + k)) ≡ false
  pub segment : s ≡ segment_at m (m.image.start + k)
  pub begun : begins m (m.image.start + k) ≡ true

-- the first byte of a run begins a group
pub run-begins : (m : MapView) (k : ℕ) → k < length m.image.bytes → is_skip (role_of m.info (m.image.start + k)) ≡ false → is_in_run m (m.image.start + k) ≡ false → begins m (m.image.start + k) ≡ true
run-begins m k low shown first =
    let held = holder m k low in
    let p : ℕ = held.first in
    ⊎_elim
    (λ same. begins-true m k low shown (subst (λ (n : ℕ). left_at (stride_at m) m.image.start n ≡ 0) (sym same) held.place.group))
    (λ other. ⊎_elim
    (λ skip. absurd (other (omega (arith, held.low, held.reach, stride-skip m (m.image.start + p) skip))))
    (λ here.
    let piece = group-piece m p held.place (omega (arith, held.low, low)) here in
    absurd (true≢false (sym (joined-run m (m.image.start + k) (piece (m.image.start + k) (omega (arith, held.low, other)) (omega (arith, held.reach, stride-group m (m.image.start + p) here)))) ∙ first)))
    (cases_Bool (is_skip (role_of m.info (m.image.start + p)))))
    (cases_eq k p)

-- ---- past a byte

-- a group that goes on with the run of the last one
enters-same : (s : Option (List ℕ)) (had : List (List ℕ)) (ss : List (Option (List ℕ))) → enters_again s had (s ∷ ss) ≡ enters_again s (segment_name s ∷ had) ss
enters-same s had ss = grind (arith, enters-step, segment-itself)

pub known-first : {Z : Type 0} (m : MapView) (e : Entered Z) → option_copied e.last ≡ None → ((t : List ℕ) → has_had e t ≡ false) → AreEnteredBefore m 0 e
unfolding is_entered_again
known-first m e last none = record {
  last = last ∙ sym (segment-first m);
  had = [];
  same = λ t. sym (none t);
  known = λ j low shown. absurd (omega (arith, low));
  rest = grind (arith, groups-first, segment-first);
}

pub known-skip : {Z : Type 0} (m : MapView) (k : ℕ) (e : Entered Z) → k < length m.image.bytes → is_skip (role_of m.info (m.image.start + k)) ≡ true → AreEnteredBefore m k e → AreEnteredBefore m (k + 1) e
known-skip m k e low skip before = grind (arith, segment-skip, groups-step, begins-skip)

-- a name that is among them once more
among-again : (had : List (List ℕ)) (name t : List ℕ) → is_among had name ≡ true → is_among (name ∷ had) t ≡ is_among had t
among-again had name t is = grind (arith, bytes_eq-Decides)

-- the last group had the segment of a byte that goes on with its run
pub known-run : {Z : Type 0} (m : MapView) (k : ℕ) (e : Entered Z) → k < length m.image.bytes → is_skip (role_of m.info (m.image.start + k)) ≡ false → is_in_run m (m.image.start + k) ≡ true → AreEnteredBefore m k e → AreEnteredBefore m (k + 1) e
known-run m k e low shown run before =
    let a : ℕ = m.image.start + k in
    let here = in-run m a run in
    let last : a - 1 ≡ m.image.start + (k - 1) = omega (arith, here.low) in
    let kept : segment_before m (k + 1) ≡ segment_before m k = segment-after m k low shown ∙ sym (segment-in-run m k low shown run) in
    let is : is_among before.had (segment_name (segment_before m k)) ≡ true =
    before.known (k - 1) (omega (arith, here.low)) (ap (λ (x : ℕ). is_skip (role_of m.info x)) (sym last) ∙ ap is_skip here.same ∙ shown) in
    let step = groups-step m k low in
    ⊎_elim
    (λ yes. record {
      last = before.last ∙ sym kept;
      had = segment_name (segment_before m k) ∷ before.had;
      same = λ t. among-again before.had (segment_name (segment_before m k)) t is ∙ before.same t;
      known = λ j under _. subst (λ (s : Option (List ℕ)). is_among (segment_name (segment_before m k) ∷ before.had) (segment_name s) ≡ true) (sym kept)
          (among-again before.had (segment_name (segment_before m k)) (segment_name (segment_before m k)) is ∙ is);
      rest = subst (λ (s : Option (List ℕ)). enters_again s (segment_name (segment_before m k) ∷ before.had) (map (segment_at m) (groups_from m (k + 1))) ≡ is_entered_again m) (sym kept)
          (sym (enters-same (segment_before m k) before.had (map (segment_at m) (groups_from m (k + 1))))
          ∙ ap (λ (s : Option (List ℕ)). enters_again (segment_before m k) before.had (s ∷ map (segment_at m) (groups_from m (k + 1)))) (segment-in-run m k low shown run)
          ∙ ap (λ (gs : List ℕ). enters_again (segment_before m k) before.had (map (segment_at m) gs)) (sym (step ∙ cond-true _ _ _ yes)) ∙ before.rest);
    })
    (λ no. record {
      last = before.last ∙ sym kept;
      had = before.had;
      same = before.same;
      known = λ j under _. subst (λ (s : Option (List ℕ)). is_among before.had (segment_name s) ≡ true) (sym kept) is;
      rest = subst (λ (s : Option (List ℕ)). enters_again s before.had (map (segment_at m) (groups_from m (k + 1))) ≡ is_entered_again m) (sym kept)
          (ap (λ (gs : List ℕ). enters_again (segment_before m k) before.had (map (segment_at m) gs)) (sym (step ∙ cond-false _ _ _ no)) ∙ before.rest);
    })
    (cases_Bool (begins m a))

-- ---- the first group of a run

-- it leads back, or those after it decide
known-here : {Z : Type 0} (m : MapView) (k : ℕ) (e : Entered Z) (s : Option (List ℕ)) → IsFirstGroup m k s → (before : AreEnteredBefore m k e)
    → (leads_back (segment_before m k) before.had s || enters_again s (segment_name s ∷ before.had) (map (segment_at m) (groups_from m (k + 1)))) ≡ is_entered_again m
known-here m k e s first before =
    sym (enters-step (segment_before m k) s before.had (map (segment_at m) (groups_from m (k + 1))))
    ∙ ap (λ (t : Option (List ℕ)). enters_again (segment_before m k) before.had (t ∷ map (segment_at m) (groups_from m (k + 1)))) first.segment
    ∙ ap (λ (gs : List ℕ). enters_again (segment_before m k) before.had (map (segment_at m) gs)) (sym (groups-step m k first.low ∙ cond-true _ _ _ first.begun)) ∙ before.rest

-- whether it leads back
leads-told : {Z : Type 0} (m : MapView) (k : ℕ) (e new : Entered Z) (s : Option (List ℕ)) (is_back : Bool) → (before : AreEnteredBefore m k e) → IsAfter e new s is_back → is_back ≡ leads_back (segment_before m k) before.had s
leads-told m k e new s is_back before after =
    after.back ∙ ap (λ (o : Option (List ℕ)). not (is_same_segment o s) && has_had e (segment_name s)) before.last
    ∙ ap (λ (b : Bool). not (is_same_segment (segment_before m k) s) && b) (sym (before.same (segment_name s)))

-- so it is by whether it leads back
known-after : {Z : Type 0} (m : MapView) (k : ℕ) (e new : Entered Z) (s : Option (List ℕ)) (is_back t : Bool) → IsFirstGroup m k s → is_back ≡ t → (before : AreEnteredBefore m k e) → IsAfter e new s is_back
    → (t || enters_again s (segment_name s ∷ before.had) (map (segment_at m) (groups_from m (k + 1)))) ≡ is_entered_again m
known-after m k e new s is_back t first same before after =
    let told : t ≡ leads_back (segment_before m k) before.had s = sym same ∙ leads-told m k e new s is_back before after in
    ap (λ (b : Bool). b || enters_again s (segment_name s ∷ before.had) (map (segment_at m) (groups_from m (k + 1)))) told ∙ known-here m k e s first before

pub known-back : {Z : Type 0} (m : MapView) (k : ℕ) (e new : Entered Z) (s : Option (List ℕ)) (is_back : Bool) → IsFirstGroup m k s → is_back ≡ true → AreEnteredBefore m k e → IsAfter e new s is_back → true ≡ is_entered_again m
known-back m k e new s is_back first leads before after = known-after m k e new s is_back true first leads before after

pub known-next : {Z : Type 0} (m : MapView) (k : ℕ) (e new : Entered Z) (s : Option (List ℕ)) (is_back : Bool) → IsFirstGroup m k s → is_back ≡ false → AreEnteredBefore m k e → IsAfter e new s is_back → AreEnteredBefore m (k + 1) new
known-next m k e new s is_back first stays before after =
    let next : s ≡ segment_before m (k + 1) = first.segment ∙ sym (segment-after m k first.low first.shown) in
    record {
      last = after.last ∙ next;
      had = segment_name s ∷ before.had;
      same = λ t. ap (λ (b : Bool). bytes_eq (segment_name s) t || b) (before.same t) ∙ sym (after.had t);
      known = λ j under _. subst (λ (t : Option (List ℕ)). is_among (segment_name s ∷ before.had) (segment_name t) ≡ true) next (ap (λ (b : Bool). b || is_among before.had (segment_name s)) ((bytes_eq-Decides (segment_name s) (segment_name s)).1 refl));
      rest = subst (λ (t : Option (List ℕ)). enters_again t (segment_name s ∷ before.had) (map (segment_at m) (groups_from m (k + 1))) ≡ is_entered_again m) next (known-after m k e new s is_back false first stays before after);
    }

pub known-end : {Z : Type 0} (m : MapView) (k : ℕ) (e : Entered Z) → k ≡ length m.image.bytes → AreEnteredBefore m k e → false ≡ is_entered_again m
known-end m k e end before =
    sym (ap (λ (gs : List ℕ). enters_again (segment_before m k) before.had (map (segment_at m) gs)) (groups-end m k end) ∙ enters-none (segment_before m k) before.had) ∙ before.rest

-- ---- what is told of a byte

-- the k-th byte has this address
pub record IsByte (m : MapView) (k a : ℕ) : Type 0 where
  pub address : a ≡ m.image.start + k
  pub low : k < length m.image.bytes

pub byte-told : (m : MapView) (image : ImageView) (bytes : List ℕ) (start k : ℕ) → m.image ≡ image → bytes ≡ image.bytes → start ≡ image.start → k < length bytes → IsByte m k (start + k)
byte-told m image bytes start k same are is low = grind arith

pub known-past : {Z : Type 0} (m : MapView) (k a : ℕ) (e : Entered Z) → IsByte m k a → ((is_in_run m a ≡ true) ⊎ (is_skip (role_of m.info a) ≡ true)) → AreEnteredBefore m k e → AreEnteredBefore m (k + 1) e
known-past m k a e here is before =
    let run-or-skip : (is_in_run m (m.image.start + k) ≡ true) ⊎ (is_skip (role_of m.info (m.image.start + k)) ≡ true) = subst (λ (x : ℕ). (is_in_run m x ≡ true) ⊎ (is_skip (role_of m.info x) ≡ true)) here.address is in
    ⊎_elim
    (λ skip. known-skip m k e here.low skip before)
    (λ shown. ⊎_elim (λ run. known-run m k e here.low shown run before) (λ skip. absurd (true≢false (sym skip ∙ shown))) run-or-skip)
    (cases_Bool (is_skip (role_of m.info (m.image.start + k))))

pub first-told : (m : MapView) (k a : ℕ) (s : Option (List ℕ)) → IsByte m k a → is_in_run m a ≡ false → is_skip (role_of m.info a) ≡ false → s ≡ segment_at m a → IsFirstGroup m k s
first-told m k a s here first shown is =
    let first : is_in_run m (m.image.start + k) ≡ false = ap (is_in_run m) (sym here.address) ∙ first in
    let shown : is_skip (role_of m.info (m.image.start + k)) ≡ false = ap (λ (x : ℕ). is_skip (role_of m.info x)) (sym here.address) ∙ shown in
    record { low = here.low; shown = shown; segment = is ∙ ap (segment_at m) here.address; begun = run-begins m k here.low shown first }

-- ---- no segments

enters-default : (m : MapView) (gs : List ℕ) (had : List (List ℕ)) → m.info.segments ≡ [] → enters_again None had (map (segment_at m) gs) ≡ false
enters-default m [] had none = enters-none None had
enters-default m (a ∷ gs) had none = grind (arith, (enters-default m gs (segment_name None ∷ had) none), bare-segment, enters-step)

-- no segment is seen if there is none
pub none-seen : {Z : Type 0} (m : MapView) (i : InfoView) (specs : List (SegmentSpec Z)) → m.info ≡ i → map segment_seen specs ≡ i.segments → specs ≡ [] → m.info.segments ≡ []
none-seen m i specs same seen none = ap (λ (x : InfoView). x.segments) same ∙ sym seen ∙ ap (map segment_seen) none

pub never-entered : (m : MapView) → m.info.segments ≡ [] → false ≡ is_entered_again m
unfolding is_entered_again
never-entered m none = sym (enters-default m (group_addresses m) [] none)
