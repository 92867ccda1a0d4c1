use Rattle.std.proofs.Common.{◌≡◌, ◌∙◌, ◌+◌, ℕ, true, ap, arith, length, map, set, sym}
use Rattle.std.specs.Prelude.{None, get_or, is_some}
use Rattle.std.proofs.lemmas.Grind.{get_or-set_at, get_or_default_zero}
use Rattle.std.proofs.lemmas.List.{get_or-set_other, length-set}
use Rattle.std.proofs.lemmas.Map.Text.{btree_map_updates_str}
use Rattle.stmt65.specs.Words.{definition_of, first_at}
use Rattle.stmt65.specs.Code.SymbolViews.{place_of, slot_of, taker_of}
use Rattle.stmt65.proofs.SymbolLaws.{index_known, index_other, index_taken}
use Rattle.stmt65.proofs.assembling.symbols.Symbols.define.Goals as goal

pub invariant_of-self-then-is_known : goal.invariant_of-self-then-is_known
invariant_of-self-then-is_known g c =
    let s = c.self.inside in
    let known : is_some (first_at c.args.definition.name.now (map definition_of s.definitions.items)) ≡ true = grind (arith, c.place_of.ensures, c.is_some-is_known.ensures, c.if-is_known.true, c.self.view_is) in
    rw c.in_ok-push.ensures.items (index_known s.definitions.items (length s.slots.items) (taker_of s.slots.items) (place_of s.others) c.args.definition c.self.invariant known)

pub invariant_of-self-then-is_free : goal.invariant_of-self-then-is_free
invariant_of-self-then-is_free g c =
    let s = c.self.inside in
    let name = c.args.definition.name.now in
    let unknown : first_at name (map definition_of s.definitions.items) ≡ None = grind (arith, c.place_of.ensures, c.is_some-is_known.ensures, c.if-is_known.false, c.self.view_is) in
    let slot : c.slot_of-slot.result ≡ slot_of (length s.slots.items) name = c.slot_of-slot.ensures.slot ∙ ap (λ (n : ℕ). slot_of n name) (c.len.ensures ∙ s.slots.ok.0) in
    let free : get_or s.slots.items (slot_of (length s.slots.items) name) 0 ≡ 0 = grind (arith, slot, c.index.ensures, c.if-is_free.true) in
    rw c.in_ok-push.ensures.items (index_taken s.definitions.items (length s.slots.items) _ (taker_of s.slots.items) (taker_of (set s.slots.items c.slot_of-slot.result (c.len-place.result + 1))) (place_of s.others) c.args.definition c.len-place.result c.self.invariant unknown
    (c.len-place.ensures ∙ s.definitions.ok.0) (length-set s.slots.items c.slot_of-slot.result (c.len-place.result + 1)) free
    (get_or-set_at s.slots.items c.slot_of-slot.result (slot_of (length s.slots.items) name) (c.len-place.result + 1) 0 (sym slot) (omega (arith, c.slot_of-slot.ensures.within, c.len.ensures, s.slots.ok.0)) ∙ omega arith)
    (λ k off. get_or-set_other s.slots.items c.slot_of-slot.result k (c.len-place.result + 1) 0 (λ e. off (e ∙ slot))))

pub invariant_of-self-in-Ok : goal.invariant_of-self-in-Ok
invariant_of-self-in-Ok g c =
    let s = c.self.inside in
    let name = c.args.definition.name.now in
    let unknown : first_at name (map definition_of s.definitions.items) ≡ None = grind (arith, c.place_of.ensures, c.is_some-is_known.ensures, c.if-is_known.false, c.self.view_is) in
    let slot : c.slot_of-slot.result ≡ slot_of (length s.slots.items) name = c.slot_of-slot.ensures.slot ∙ ap (λ (n : ℕ). slot_of n name) (c.len.ensures ∙ s.slots.ok.0) in
    let there : get_or s.slots.items (slot_of (length s.slots.items) name) 0 ≡ c.index.result.now =
    sym (c.index.ensures ∙ get_or_default_zero s.slots.items c.slot_of-slot.result c.index.result.now (omega (arith, c.slot_of-slot.ensures.within, c.len.ensures, s.slots.ok.0)) ∙ ap (λ (k : ℕ). get_or s.slots.items k 0) slot) in
    rw c.in_ok-push.ensures.items (index_other s.definitions.items (length s.slots.items) (taker_of s.slots.items) (place_of s.others) (place_of c.insert.new.self) c.args.definition c.len-place.result c.self.invariant unknown
    (c.len-place.ensures ∙ s.definitions.ok.0)
    (λ free. absurd (let zero : c.index.result.now ≡ 0 = sym there ∙ free in grind (arith, zero, c.if-is_free.false)))
    (λ q. btree_map_updates_str name s.others c.insert.new.self _ c.in-Ok.ensures.updates q))
