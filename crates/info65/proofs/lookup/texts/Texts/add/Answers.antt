use Rattle.std.proofs.Common.{◌≡◌, ◌∙◌, ℕ, ap, get_or, inl, inr, refl, sym}
use Rattle.std.specs.Str.{bytes_eq}
use Rattle.std.proofs.lemmas.Map.Text.{btree_map_updates_str}
use Rattle.std.proofs.lemmas.Slice.Eq.{bytes_eq-Decides}
use Rattle.info65.specs.Words.{slot_of}
use Rattle.info65.proofs.Cases.{by_test}
use Rattle.info65.proofs.IndexLemmas.{other_way, same_text}
use Rattle.info65.proofs.lookup.texts.Texts.add.Goals as goal

pub returns-in_ok-insert-clause-done : goal.returns-in_ok-insert-clause-done
returns-in_ok-insert-clause-done g c = λ t.
    let text = c.args.text.now in
    let slots = c.args.self.now.slots in
    let wide : c.widen.new.self.count ≡ slots.count = c.widen.ensures.count in
    let stays = ap (λ (n : ℕ). get_or c.widen.new.self.cells (slot_of n t) 0) wide ∙ c.widen.ensures.same (slot_of slots.count t) in
    let now = btree_map_updates_str text c.args.self.now.others c.insert.new.self _ c.in_ok-insert.ensures.updates t in
    by_test (bytes_eq text t)
    (λ at.
    let same : text ≡ t = same_text text t at in
    let slot : c.slot_of-slot.result ≡ slot_of slots.count t = c.slot_of-slot.ensures.value ∙ ap (λ (n : ℕ). slot_of n text) (c.count.ensures.value ∙ wide) ∙ ap (slot_of slots.count) same in
    inr (inl (
      λ free. c.if-at-eq0.false (c.at.ensures ∙ c.widen.ensures.same c.slot_of-slot.result ∙ ap (λ (k : ℕ). get_or slots.cells k 0) slot ∙ free),
      (bytes_eq-Decides t text).1 (sym same),
      stays,
      now ∙ rw at refl,
    )))
    (λ off. inr (inr (other_way text t off, stays, now ∙ rw off refl)))
