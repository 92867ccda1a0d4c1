-- The candidate of a word is the mnemonic that it spells, if it spells one.
use Rattle.std.proofs.Common.{◌≡◌, ℕ, true, false, List, Option, Some, None, refl, sym, ◌∙◌, ap}
use Rattle.std.specs.Bool.{then_some}
use Rattle.std.specs.Str.{str_eq_ignore_ascii_case, str_to_ascii_lowercase}
use Rattle.std.proofs.lemmas.Bool.{false_from_ne_true}
use Rattle.std.proofs.lemmas.Slice.Eq.{bytes_eq-Decides}
use Rattle.isa65.specs.Words.{Adc, Mnemonic, candidate, mnemonic_named, number_of, text_of}
use Rattle.isa65.proofs.MnemonicLaws.{lowercase-text_of, mnemonic_named-is}

-- each mnemonic is the candidate of its own text
candidate-text_of : (m : Mnemonic) → candidate (text_of m) ≡ m
unfolding candidate number_of
candidate-text_of Adc = refl
candidate-text_of _ = refl

-- so a word spells its candidate, or none
pub candidate-is : (bytes : List ℕ) → then_some (str_eq_ignore_ascii_case (text_of (candidate (str_to_ascii_lowercase bytes))) bytes) (candidate (str_to_ascii_lowercase bytes)) ≡ mnemonic_named bytes
candidate-is bytes = go (mnemonic_named bytes) refl
  where
    c : Mnemonic
    c = candidate (str_to_ascii_lowercase bytes)

    go : (o : Option Mnemonic) → mnemonic_named bytes ≡ o → then_some (str_eq_ignore_ascii_case (text_of c) bytes) c ≡ o
    go (Some m) e =
        let word = (mnemonic_named-is bytes m).0 e in
        let same : c ≡ m = ap candidate word ∙ candidate-text_of m in
        let hit : str_eq_ignore_ascii_case (text_of m) bytes ≡ true = (bytes_eq-Decides _ _).1 (lowercase-text_of m ∙ sym word) in
        rw (same, hit) refl
    go None e =
        let miss : str_eq_ignore_ascii_case (text_of c) bytes ≡ false = false_from_ne_true _ (λ hit. let found = (mnemonic_named-is bytes c).1 (sym ((bytes_eq-Decides _ _).0 hit) ∙ lowercase-text_of c) in cc) in
        rw miss refl
