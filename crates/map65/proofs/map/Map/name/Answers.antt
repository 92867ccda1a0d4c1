use Rattle.std.proofs.Common.{◌≡◌, ◌∙◌, ap, sym, true}
use Rattle.std.specs.Prelude.{None, Some}
use Rattle.std.specs.Option.{option_map}
use Rattle.info65.specs.Words.{given_seen}
use Rattle.map65.specs.Words.{base_at, entry_base, given_base, has_name}
use Rattle.map65.proofs.NameLemmas.{base-covered, base_entry_start, base-none, kind_of, text_of}
use Rattle.map65.proofs.map.Map.name.Goals as goal

pub returns-then-not-is_named : goal.returns-then-not-is_named
returns-then-not-is_named g c =
    let m = c.args.self.now in
    let none = base-none m c.args.address (sym c.cell.ensures.named ∙ sym c.is_named.ensures ∙ c.if-not-is_named.true) in
    record { kind = sym (kind_of m c.args.address None none); text = c.clear.ensures ∙ sym (text_of m c.args.address None none) }

pub returns-in-Some : goal.returns-in-Some
returns-in-Some g c =
    let m = c.args.self.now in
    let base : base_at m c.args.address ≡ Some (given_base (given_seen c.in-Some.given)) = base-covered m c.args.address _ (sym c.given.ensures.value ∙ ap (option_map given_seen) c.in-Some.is) in
    record { kind = ap (λ k. Some k) c.put_given.ensures.kind ∙ sym (kind_of m c.args.address _ base); text = c.put_given.ensures.text ∙ sym (text_of m c.args.address _ base) }

pub returns : goal.returns
returns g c =
    let m = c.args.self.now in
    let named : has_name m c.args.address ≡ true = sym c.cell.ensures.named ∙ sym c.is_named.ensures ∙ c.if-not-is_named.false in
    let base : base_at m c.args.address ≡ Some (entry_base m c.args.address) = base_entry_start m c.args.address named (sym c.given.ensures.value ∙ ap (option_map given_seen) c.in_default.is) in
    record { kind = ap (λ k. Some k) c.put_entry_start.ensures.kind ∙ sym (kind_of m c.args.address _ base); text = c.put_entry_start.ensures.text ∙ sym (text_of m c.args.address _ base) }
