-- The table of names keeps its index.
use Rattle.std.proofs.Common.{◌≡◌, ℕ, zero, suc, Bool, true, false, cond, ltb, ◌+◌, ◌<◌, ◌≤◌, List, [], ◌∷◌, ◌++◌, length, map, take, Option, Some, None, refl, sym, ap, ◌∙◌, arith, length-append, Bor}
use Rattle.std.specs.Prelude.{◌≢◌, eqb, get_or, is_some, option_map}
use Rattle.std.specs.List.{slice_get}
use Rattle.std.specs.Str.{bytes_eq}
use Rattle.std.specs.BTreeMap.{BTreeMap}
use Rattle.std.specs.Map.{update}
use Rattle.std.proofs.lemmas.Bool.{eqb-false, eqb-true}
use Rattle.std.proofs.lemmas.Bool.Decides.{nat_tests}
use Rattle.std.proofs.lemmas.Slice.Eq.{bytes_eq-Decides}
use Rattle.std.proofs.lemmas.List.{length-map, map-append}
use Rattle.std.proofs.Math.Seq.{take-length}
use Rattle.stmt65.specs.Words.{Definition, definition_of, find_name, first_at}
use Rattle.stmt65.specs.declared.assembling.symbols.Definition.{Definition as CodeDefinition}
use Rattle.stmt65.specs.Code.SymbolViews.{IsIndex, is_named, place_by, place_of, slot_of, taker_of}
use Rattle.stmt65.proofs.Cases.{by_test}

-- no names in no definitions
pub index_empty : (ds : List CodeDefinition) (slots : List ℕ) (others : BTreeMap (Bor (List ℕ)) ℕ) → ds ≡ [] → 0 < length slots → ((k : ℕ) → get_or slots k 0 ≡ 0) → others.entries ≡ []
    → IsIndex ds (length slots) (taker_of slots) (place_of others)
unfolding first_at
index_empty ds slots others e some free g = rw (e, g) (record {
  some = some;
  within = λ k. rw (free k) (omega arith);
  free = λ q h. refl;
  finds = λ q. rw (free (slot_of (length slots) q)) refl;
})

pub all_names : (ds : List CodeDefinition) (n : ℕ) → n ≡ length ds → take n (map definition_of ds) ≡ map definition_of ds
all_names ds n e = rw (e, ← length-map ds definition_of) (take-length (map definition_of ds))

-- the definition at a place, among so many of the first
abbrev at_place : ℕ → List Definition → Option ℕ → Option Definition
at_place n ds None = None
at_place n ds (Some i) = cond (ltb i n) (slice_get ds i) None

at_none : (ds : List Definition) (o : Option ℕ) → at_place 0 ds o ≡ None
at_none ds o = grind arith

at_more : (x : Definition) (ds : List Definition) (n : ℕ) (o : Option ℕ) → at_place (suc n) (x ∷ ds) (option_map suc o) ≡ at_place n ds o
at_more x ds n o = grind (arith, nat_tests)

-- a name is found where it stands first
pub finds : (q : List ℕ) (ds : List Definition) (n : ℕ) → find_name q (take n ds) ≡ at_place n ds (first_at q ds)
unfolding find_name first_at
finds q [] zero = refl
finds q [] (suc n) = refl
finds q (x ∷ ds) zero = sym (at_none (x ∷ ds) (first_at q (x ∷ ds)))
finds q (x ∷ ds) (suc n) = by_test (bytes_eq x.name q) (λ e. rw e (grind arith)) (λ e. rw (e, at_more x ds n (first_at q ds)) (finds q ds n))

-- ---- one more definition

pub next_taken : (ds : List Definition) (n : ℕ) (d : Definition) → slice_get ds n ≡ Some d → take (n + 1) ds ≡ take n ds ++ d ∷ []
next_taken [] n d e = absurd cc
next_taken (x ∷ ds) zero d e = cc
next_taken (x ∷ ds) (suc n) d e = grind (arith, (next_taken ds n d e))

abbrev or_here : Option ℕ → Bool → ℕ → Option ℕ
or_here None named n = cond named (Some n) None
or_here (Some i) named n = Some i

first_at-push : (q : List ℕ) (ds : List Definition) (d : Definition) → first_at q (ds ++ d ∷ []) ≡ or_here (first_at q ds) (bytes_eq d.name q) (length ds)
unfolding first_at
first_at-push q [] d = refl
first_at-push q (x ∷ ds) d = grind (arith, (first_at-push q ds d))

slice_get-front : (ds : List CodeDefinition) (d : CodeDefinition) (i : ℕ) → i < length ds → slice_get (ds ++ d ∷ []) i ≡ slice_get ds i
slice_get-front [] d i h = absurd (omega arith)
slice_get-front (x ∷ ds) d zero h = refl
slice_get-front (x ∷ ds) d (suc i) h = slice_get-front ds d i (omega arith)

slice_get-last : (ds : List CodeDefinition) (d : CodeDefinition) → slice_get (ds ++ d ∷ []) (length ds) ≡ Some d
slice_get-last [] d = refl
slice_get-last (x ∷ ds) d = slice_get-last ds d

-- where a name stands first, after one more definition
pushed : (q : List ℕ) (ds : List CodeDefinition) (d : CodeDefinition) → first_at q (map definition_of (ds ++ d ∷ [])) ≡ or_here (first_at q (map definition_of ds)) (bytes_eq d.name.now q) (length ds)
pushed q ds d = rw (map-append, first_at-push, length-map) refl

-- where a name stands by the taker of its slot, in more definitions
stays : (q : List ℕ) (ds : List CodeDefinition) (d : CodeDefinition) (n : ℕ) (o : Option ℕ) → n ≤ length ds → place_by q (ds ++ d ∷ []) n o ≡ place_by q ds n o
stays q ds d zero o h = refl
stays q ds d (suc i) o h = ap (λ (x : Option CodeDefinition). cond (is_named q x) (Some i) o) (slice_get-front ds d i (omega arith))

other : (o : Option ℕ) (n : ℕ) → or_here o false n ≡ o
other o n = grind arith

within_more : (ds : List CodeDefinition) (d : CodeDefinition) (n : ℕ) → n ≤ length ds → n ≤ length (ds ++ d ∷ [])
within_more ds d n h = omega (arith, h, length-append ds (d ∷ []))

-- where each name stands once a definition is added: another name stands where it stood
index_more : (ds : List CodeDefinition) (count : ℕ) (taker next : ℕ → ℕ) (others later : List ℕ → Option ℕ) (d : CodeDefinition) → IsIndex ds count taker others
    → ((k : ℕ) → next k ≤ length (ds ++ d ∷ [])) → ((q : List ℕ) → next (slot_of count q) ≡ 0 → later q ≡ None)
    → ((q : List ℕ) → bytes_eq d.name.now q ≡ false → place_by q (ds ++ d ∷ []) (next (slot_of count q)) (later q) ≡ place_by q ds (taker (slot_of count q)) (others q))
    → place_by d.name.now (ds ++ d ∷ []) (next (slot_of count d.name.now)) (later d.name.now) ≡ or_here (first_at d.name.now (map definition_of ds)) true (length ds)
    → IsIndex (ds ++ d ∷ []) count next later
index_more ds count taker next others later d h within free same here = record {
  some = h.some;
  within = within;
  free = free;
  finds = λ q. grind (arith, (bytes_eq-Decides d.name.now q), (pushed q ds d), other, (same q), (h.finds q));
}

pub index_known : (ds : List CodeDefinition) (count : ℕ) (taker : ℕ → ℕ) (others : List ℕ → Option ℕ) (d : CodeDefinition) → IsIndex ds count taker others → is_some (first_at d.name.now (map definition_of ds)) ≡ true
    → IsIndex (ds ++ d ∷ []) count taker others
index_known ds count taker others d h known =
    index_more ds count taker taker others others d h (λ k. within_more ds d (taker k) (h.within k)) h.free
    (λ q e. stays q ds d (taker (slot_of count q)) (others q) (h.within (slot_of count q)))
    (grind (arith, (stays d.name.now ds d (taker (slot_of count d.name.now)) (others d.name.now) (h.within (slot_of count d.name.now))), (h.finds d.name.now)))

-- a name whose slot is taken
pub index_other : (ds : List CodeDefinition) (count : ℕ) (taker : ℕ → ℕ) (others later : List ℕ → Option ℕ) (d : CodeDefinition) (n : ℕ) → IsIndex ds count taker others → first_at d.name.now (map definition_of ds) ≡ None → n ≡ length ds
    → taker (slot_of count d.name.now) ≢ 0 → ((q : List ℕ) → later q ≡ update bytes_eq others d.name.now (Some n) q) → IsIndex (ds ++ d ∷ []) count taker later
index_other ds count taker others later d n h unknown is taken now =
    index_more ds count taker taker others later d h (λ k. within_more ds d (taker k) (h.within k))
    (λ q e. grind (arith, (bytes_eq-Decides d.name.now q), (now q), (h.free q)))
    (λ q e. stays q ds d (taker (slot_of count q)) (later q) (h.within (slot_of count q)) ∙ ap (place_by q ds (taker (slot_of count q))) (now q ∙ rw e refl))
    (let same = (bytes_eq-Decides d.name.now d.name.now).1 refl in grind (arith, (stays d.name.now ds d (taker (slot_of count d.name.now)) (later d.name.now) (h.within (slot_of count d.name.now))), (h.finds d.name.now), (now d.name.now)))

-- a name whose slot is free
pub index_taken : (ds : List CodeDefinition) (count more : ℕ) (taker next : ℕ → ℕ) (others : List ℕ → Option ℕ) (d : CodeDefinition) (n : ℕ) → IsIndex ds count taker others → first_at d.name.now (map definition_of ds) ≡ None → n ≡ length ds
    → more ≡ count → taker (slot_of count d.name.now) ≡ 0 → next (slot_of count d.name.now) ≡ suc n → ((k : ℕ) → k ≢ slot_of count d.name.now → next k ≡ taker k) → IsIndex (ds ++ d ∷ []) more next others
index_taken ds count more taker next others d n h unknown is same free here now = rw same (
    index_more ds count taker next others others d h
    (λ k. at_slot k (λ e. rw (e, here, is) (omega (arith, length-append ds (d ∷ [])))) (λ e. rw e (within_more ds d (taker k) (h.within k))))
    (λ q e. at_slot (slot_of count q) (λ f. absurd (let g = rw (f, here) at e in omega arith)) (λ f. h.free q (sym f ∙ e)))
    (λ q e. at_slot (slot_of count q) (λ f. let none = h.free q (rw f free) in rw (f, here, is, free, slice_get-last, e) none)
    (λ f. rw f (stays q ds d (taker (slot_of count q)) (others q) (h.within (slot_of count q)))))
    (let named = (bytes_eq-Decides d.name.now d.name.now).1 refl in rw (here, is, slice_get-last, named, unknown) refl))
  where
    -- in the slot of the new name, or in another one
    at_slot : {P : Type 0} (k : ℕ) → (k ≡ slot_of count d.name.now → P) → (next k ≡ taker k → P) → P
    at_slot k f g = by_test (eqb k (slot_of count d.name.now)) (λ e. f (eqb-true k (slot_of count d.name.now) e)) (λ e. g (now k (eqb-false k (slot_of count d.name.now) e)))
