-- A look-up by name finds each mnemonic, and no other.
use Rattle.std.specs.Prelude.{◌≡◌, ◌↔◌, ◌≤◌, ℕ, List, length, Some, refl}
use Rattle.std.specs.List.{find}
use Rattle.std.specs.Str.{bytes_eq, str_eq_ignore_ascii_case, str_to_ascii_lowercase}
use Rattle.std.proofs.Common.{sym, ◌∙◌, arith}
use Rattle.std.proofs.lemmas.Slice.Eq.{bytes_eq-Decides}
use Rattle.isa65.specs.Words.{Adc, Mnemonic, mnemonic_named, text_of}
use Rattle.isa65.specs.declared.mnemonic.TheConstants.{ALL}
use Rattle.isa65.proofs.Finding.{find-passes}

pub lowercase-text_of : (m : Mnemonic) → str_to_ascii_lowercase (text_of m) ≡ text_of m
lowercase-text_of Adc = refl
lowercase-text_of _ = refl

find-text_of : (m : Mnemonic) → find (λ n. bytes_eq (str_to_ascii_lowercase (text_of n)) (text_of m)) ALL ≡ Some m
find-text_of Adc = refl
find-text_of _ = refl

-- bytes name m exactly when they are its text, but for case
pub mnemonic_named-is : (bytes : List ℕ) (m : Mnemonic) → (mnemonic_named bytes ≡ Some m) ↔ (str_to_ascii_lowercase bytes ≡ text_of m)
unfolding mnemonic_named
mnemonic_named-is bytes m = (
  λ h. sym ((bytes_eq-Decides _ _).0 (find-passes (λ n. str_eq_ignore_ascii_case (text_of n) bytes) ALL m h)) ∙ lowercase-text_of m,
  λ e. rw e (find-text_of m),
)

-- a mnemonic has at most four letters
pub mnemonic_len : (m : Mnemonic) → length (text_of m) ≤ 4
mnemonic_len Adc = omega arith
mnemonic_len _ = omega arith
