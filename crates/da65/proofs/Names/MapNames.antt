-- The names of a map are such that its listing assembles back.
use Rattle.std.proofs.Common.{◌≡◌, ◌∙◌, inl, inr, ℕ, ◌+◌, ◌-◌, ◌<◌, Bool, List, true, false, not, length, Some, refl, sym, ap, subst, arith}
use Rattle.std.proofs.lemmas.Bool.{false_from_ne_true, true≢false}
use Rattle.std.proofs.lemmas.List.Folds.{list_any_at}
use Rattle.map65.specs.Words.{Base, BaseLaw, IsInCode, IsOutside, LiesBy, MapView, addresses, base_at, is_inside, is_skip, item_len, place_of, role_of, size_at, text_by}
use Rattle.da65.specs.Words.{NamesAreSound, Place, base_name, is_constant, names_of, skips}
use Rattle.map65.specs.declared.name.Place.TheVariants as place
use Rattle.map65.proofs.Public.{address-at, address-count, base_law, begun, inside-if, place_law, size-fits, within}
use Rattle.da65.proofs.Groups.DefinedLemmas.{Defined, defined-base}
use Rattle.da65.proofs.Names.NameTexts.{base-text}
use Rattle.da65.proofs.Names.TargetBounds.{base-small}
use Rattle.stmt65.specs.Words.{is_name}

-- ---- skipped bytes

pub none-skipped : (m : MapView) (k : ℕ) → skips m ≡ false → k < length m.image.bytes → is_skip (role_of m.info (m.image.start + k)) ≡ false
unfolding skips
none-skipped m k none low =
    let p : ℕ → Bool = λ a. is_skip (role_of m.info a) in
    let inside : k < length (addresses (length m.image.bytes) m.image.start) = omega (arith, low, address-count (length m.image.bytes) m.image.start) in
    false_from_ne_true (p (m.image.start + k)) (λ skip.
    true≢false (sym (list_any_at p (addresses (length m.image.bytes) m.image.start) k 0 inside (ap p (address-at (length m.image.bytes) k m.image.start 0 low) ∙ skip)) ∙ none))

-- the same of an address
pub shown-inside : (m : MapView) (a : ℕ) → skips m ≡ false → is_inside m.image a ≡ true → is_skip (role_of m.info a) ≡ false
shown-inside m a none inside =
    let bounds = within m a inside in
    let same : m.image.start + (a - m.image.start) ≡ a = omega (arith, bounds.low) in
    sym (ap (λ (x : ℕ). is_skip (role_of m.info x)) same) ∙ none-skipped m (a - m.image.start) none (omega (arith, bounds.low, bounds.high))

-- ---- the law

some-same : (b d : Base) → b ≡ d → b.address ≡ d.address
some-same b d e = ap (λ (x : Base). x.address) e

text-is : (m : MapView) (a : ℕ) (b : Base) → base_at m a ≡ Some b → base_name (names_of m) a ≡ b.text
text-is m a b e = ap text_by e

constant-is : (m : MapView) (a : ℕ) → skips m ≡ false → Defined m a → is_constant (place_of m a) ≡ not (is_inside m.image a)
constant-is m a none h =
    lies (place_of m a) (subst (λ (x : ℕ). LiesBy (place_of m x) m x) h.own (place_law m a h.base h.is))
  where
    apart : (t : Bool) → is_inside m.image a ≡ t → (is_skip (role_of m.info a) ≡ true) → not (is_inside m.image a) ≡ true
    apart true e skip = absurd (true≢false (sym skip ∙ shown-inside m a none e))
    apart false e skip = ap not e

    outside : IsOutside m a → not (is_inside m.image a) ≡ true
    outside (inl out) = ap not out
    outside (inr skip) = apart (is_inside m.image a) refl skip

    in-code : IsInCode m a → is_inside m.image a ≡ true
    in-code code =
        let item = begun m code.item code.begins in
        let k : ℕ = code.item - m.image.start in
        let spot : m.image.start + k ≡ code.item = omega (arith, item.low) in
        let fits = size-fits m k (omega (arith, item.low, item.high)) in
        let size : size_at m (m.image.start + k) ≡ item_len m code.item = ap (size_at m) spot ∙ sym item.len in
        inside-if m a (omega (arith, item.low, code.after)) (omega (arith, spot, fits, size, code.before))

    lies : (p : Place) → LiesBy p m a → is_constant p ≡ not (is_inside m.image a)
    lies place.Constant out = sym (outside out)
    lies place.Label item = sym (ap not (begun m a item).inside)
    lies place.Forward code = sym (ap not (in-code code))

pub names_are_sound : NamesAreSound
names_are_sound m placed are names none =
    let law : BaseLaw m = base_law m names in
    record {
      distinct = λ u v is_u is_v same.
          let b : Defined m u = defined-base m u is_u in
          let d : Defined m v = defined-base m v is_v in
          let text : b.base.text ≡ d.base.text = sym (text-is m u b.base b.is) ∙ same ∙ text-is m v d.base d.is in
          sym b.own ∙ some-same b.base d.base (law.distinct u v b.base d.base (base-small m u b.base placed are names b.is) (base-small m v d.base placed are names d.is) b.is d.is text) ∙ d.own;
      named = λ v is. let b : Defined m v = defined-base m v is in subst (λ (w : List ℕ). is_name w ≡ true) (sym (text-is m v b.base b.is)) (base-text m v b.base names b.is).name;
      in_space = λ v is. let b : Defined m v = defined-base m v is in base-small m v b.base placed are names b.is;
      bases = λ a b is. record { base = law.own a b is; before = law.low a b is };
      constants = λ v is. let b : Defined m v = defined-base m v is in constant-is m v none b;
    }
