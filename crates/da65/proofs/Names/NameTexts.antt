-- The texts of a map's names are names, and none of them is reserved.
use Rattle.std.proofs.Common.{◌≡◌, ℕ, ◌<◌, true, false, not, List, ◌∷◌, Option, Some, None, refl, sym, ap, subst, arith, []}
use Rattle.std.proofs.lemmas.Bool.{and_from, or_parts}
use Rattle.std.proofs.lemmas.Bool.Decides.{nat_tests}
use Rattle.text65.specs.Digits.{hex_digit}
use Rattle.text65.specs.Names.{has_name_form, is_reserved_word, is_word_byte}
use Rattle.text65.proofs.Public.{long_word}
use Rattle.info65.specs.Words.{AreNames, IsName, NameView, blank_name, covering, default_name, is_reserved, name_at}
use Rattle.stmt65.specs.Words.{IsNameLong, is_name}
use Rattle.info65.proofs.Public.{last_name}
use Rattle.map65.specs.Words.{Base, MapView, base_at, entry_base, entry_start, given_base, is_referenced}
use Rattle.map65.proofs.Public.{entry_start_default, entry_start_given}

-- a text that can be printed, and that reads as a name
pub record IsNameText (text : List ℕ) : Type 0 where
  pub name : is_name text ≡ true
  pub long : IsNameLong text

pub text_long : (text : List ℕ) → has_name_form text ≡ true → IsNameLong text
unfolding has_name_form
text_long [] h = absurd cc
text_long (b ∷ w) h = grind arith

text-of-form : (text : List ℕ) → has_name_form text ≡ true → is_reserved_word text ≡ false → IsNameText text
unfolding is_name
text-of-form text form free = record { name = and_from (has_name_form text) (not (is_reserved_word text)) form (ap not free); long = text_long text form }

-- ---- names that are given

given-text : (n : NameView) → IsName n → IsNameText n.text
unfolding is_reserved
given-text n is = text-of-form n.text is.form (or_parts (is_reserved_word n.text) _ is.free).0

-- ---- default names

hex-word : (d : ℕ) → d < 16 → is_word_byte (hex_digit d) ≡ true
hex-word d low = grind (arith, nat_tests)

default-text : (a : ℕ) → IsNameText (default_name a)
unfolding has_name_form default_name
default-text a = grind (arith, hex-word, text-of-form, long_word)

-- ---- the names of a map

covering-text : (names : List NameView) (a : ℕ) (v : NameView) → AreNames names → covering names a ≡ Some v → IsNameText v.text
covering-text names a v are e =
    let last = last_name names a v e in
    subst (λ (n : NameView). IsNameText n.text) (sym last.is) (given-text (name_at names last.index) (are.each last.index blank_name last.low))

entry_start-text : (m : MapView) (a : ℕ) → AreNames m.info.names → IsNameText (entry_base m a).text
entry_start-text m a are = go (covering m.info.names (entry_start m a)) refl
  where
    go : (o : Option NameView) → covering m.info.names (entry_start m a) ≡ o → IsNameText (entry_base m a).text
    go (Some v) e = subst (λ (b : Base). IsNameText b.text) (sym (entry_start_given m a v e)) (covering-text m.info.names (entry_start m a) v are e)
    go None e = subst (λ (b : Base). IsNameText b.text) (sym (entry_start_default m a e)) (default-text (entry_start m a))

-- what holds of the base of a name that is given, and of an entry that is referred to, holds of the base of each address
pub base-cases : (m : MapView) (a : ℕ) (b : Base) (P : Base → Type 0) → ((v : NameView) → covering m.info.names a ≡ Some v → P (given_base v)) → (is_referenced m a ≡ true → P (entry_base m a)) → base_at m a ≡ Some b → P b
unfolding base_at
base-cases m a b P of_given of_entry e = grind arith

pub base-text : (m : MapView) (a : ℕ) (b : Base) → AreNames m.info.names → base_at m a ≡ Some b → IsNameText b.text
base-text m a b are e = base-cases m a b (λ b. IsNameText b.text) (λ v f. covering-text m.info.names a v are f) (λ _. entry_start-text m a are) e
