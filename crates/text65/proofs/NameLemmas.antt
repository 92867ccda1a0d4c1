-- Words by their length.
use Rattle.std.proofs.Common.{◌≡◌, ◌<◌, ℕ, false, List, [], ◌∷◌, ap, arith, length, refl}
use Rattle.std.specs.Prelude.{Option, Some, None, is_some}
use Rattle.std.specs.Str.{str_eq_ignore_ascii_case, str_to_ascii_lowercase}
use Rattle.std.proofs.lemmas.Bool.{false_from_ne_true}
use Rattle.std.proofs.lemmas.List.{length-map}
use Rattle.std.proofs.lemmas.Slice.Eq.{bytes_eq-Decides}
use Rattle.isa65.specs.Words.{mnemonic_named}
use Rattle.isa65.proofs.MnemonicLaws.{mnemonic_len, mnemonic_named-is}
use Rattle.isa65.specs.declared.mnemonic.Mnemonic.{Mnemonic}
use Rattle.text65.specs.Names.{is_reserved_word}

unlike : (word text : List ℕ) → length word < length text → str_eq_ignore_ascii_case text word ≡ false
unlike word text long =
    false_from_ne_true _ (λ hit. omega (arith, long, simp length-map at (ap length ((bytes_eq-Decides (str_to_ascii_lowercase text) (str_to_ascii_lowercase word)).0 hit))))

long_mnemonic : (text : List ℕ) → 4 < length text → (o : Option Mnemonic) → mnemonic_named text ≡ o → is_some o ≡ false
long_mnemonic text long None miss = refl
long_mnemonic text long (Some m) found = absurd (omega (arith, long, mnemonic_len m, simp length-map at (ap length ((mnemonic_named-is text m).0 found))))

-- a text of more than four bytes is neither a register nor a mnemonic
pub long_word : (text : List ℕ) → 4 < length text → is_reserved_word text ≡ false
unfolding is_reserved_word
long_word text long =
    let other : (b : ℕ) → str_eq_ignore_ascii_case text (b ∷ []) ≡ false = λ b. unlike (b ∷ []) text (omega (arith, long)) in
    rw (other 65, other 70, other 83, other 88, other 89, other 90, long_mnemonic text long (mnemonic_named text) refl) refl
