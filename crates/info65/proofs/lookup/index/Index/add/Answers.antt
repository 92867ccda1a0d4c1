use Rattle.std.proofs.Common.{◌≡◌, ◌∙◌, ◌==◌, ◌++◌, ◌∷◌, ◌+◌, ℕ, [], List, ap, arith, length, map, subst, if◌then◌else◌}
use Rattle.std.specs.Prelude.{None}
use Rattle.std.proofs.lemmas.List.{length-map, map-append}
use Rattle.info65.specs.Words.{AddsText, Given, NameView, given_seen, name_fault, texts_seen}
use Rattle.info65.specs.Code.Numbers.{number_at}
use Rattle.info65.proofs.IndexLemmas.{name_added}
use Rattle.info65.proofs.lookup.index.Index.add.Goals as goal

pub invariant_of-self-2 : goal.invariant_of-self-2
invariant_of-self-2 g c =
    let items = c.self.inside.names.items in
    let names = map given_seen items in
    let n = given_seen c.args.name in
    let old = c.self.inside.numbers in
    let texts = texts_seen c.self.inside.texts in
    let fine : name_fault names n ≡ None = ap (λ (l : List NameView). name_fault l n) c.self.view_is ∙ c.requires in
    let more : c.push.new.self.items ≡ items ++ c.args.name ∷ [] = c.in_ok-push.ensures.items ∙ ap (λ (l : List Given). l ++ c.args.name ∷ []) c.reserve.ensures.items in
    let grown : map given_seen c.push.new.self.items ≡ names ++ n ∷ [] = ap (λ (l : List Given). map given_seen l) more ∙ map-append given_seen items (c.args.name ∷ []) in
    let number : c.in_ok-number.number ≡ length names + 1 = omega (arith, c.in_ok-number.ensures.ok, c.len.ensures, ap length c.reserve.ensures.items, length-map items given_seen) in
    let set : (a : ℕ) → number_at c.set.new.self a ≡ (if n.address == a then length names + 1 else number_at old a) = λ a.
    (rw number at (c.set.ensures a)) ∙ ap (λ (x : ℕ). if n.address == a then length names + 1 else x) (c.widen.ensures.same a) in
    rw grown (name_added names old c.set.new.self texts (texts_seen c.add.new.self) n c.self.invariant fine set
    (λ t. subst (λ (k : ℕ). AddsText texts n.text n.address k (texts_seen c.add.new.self) t) number (c.in_ok-add.ensures.done t)))
