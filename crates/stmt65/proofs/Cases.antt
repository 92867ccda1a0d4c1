-- Going by what a test, an option or a list turns out to be; what stands in front; words in any case.
use Rattle.std.specs.Prelude.{◌∷◌, ◌≡◌, codes}
use Rattle.stmt65.proofs.Lemmas.{Bool, List, None, Option, Some, [], and_parts, ap, arith, bytes_eq-Decides, drop, eqb-true, false, find-passes, lowercase-text_of, mnemonic_named-is, not-true, or_parts, refl, sym, true, ℕ, ◌∙◌}
use Rattle.stmt65.specs.Words.{ALL, Define, Directive, Mark, Mnemonic, Number, Part, Word, directive_named, directive_text, is_define, is_mark, is_name, is_number_here, is_reserved_word, is_word_here, mnemonic_named, number_in, same, text_of}
use Rattle.stmt65.specs.Parts.{number_of}

pub by_test : {P : Type 0} (b : Bool) → (b ≡ true → P) → (b ≡ false → P) → P
by_test true f g = f refl
by_test false f g = g refl

pub by_option : {A P : Type 0} (o : Option A) → ((x : A) → o ≡ Some x → P) → (o ≡ None → P) → P
by_option (Some x) f g = f x refl
by_option None f g = g refl

pub by_list : {A P : Type 0} (xs : List A) → (xs ≡ [] → P) → ((y : A) → (ys : List A) → xs ≡ y ∷ ys → P) → P
by_list [] f g = f refl
by_list (x ∷ xs) f g = g x xs refl

pub mark_is : (b : ℕ) (ps : List Part) → is_mark b ps ≡ true → ps ≡ Mark b ∷ drop 1 ps
mark_is b (Mark c ∷ ps) e = ap (λ (d : ℕ). Mark d ∷ ps) (eqb-true c b e)
mark_is b _ e = absurd cc

pub define_is : (ps : List Part) → is_define ps ≡ true → ps ≡ Define ∷ drop 1 ps
define_is (Define ∷ ps) e = refl
define_is _ e = absurd cc

pub word_is : (text : List ℕ) (ps : List Part) → is_word_here text ps ≡ true → (w : List ℕ) × (same w text ≡ true) × (ps ≡ Word w ∷ drop 1 ps)
word_is text (Word w ∷ ps) e = (w, e, refl)
word_is text _ e = absurd cc

pub number_is : (ps : List Part) (n : ℕ × List Part) → number_in ps ≡ Some n → (text : List ℕ) × (n.0 ≡ number_of text) × (ps ≡ Number text ∷ n.1)
number_is (Number t ∷ ps) n e = grind arith
number_is _ n e = absurd cc

pub number_here_is : (text : List ℕ) (ps : List Part) → is_number_here text ps ≡ true → ps ≡ Number text ∷ drop 1 ps
number_here_is text (Number t ∷ ps) e = ap (λ (s : List ℕ). Number s ∷ ps) ((bytes_eq-Decides t text).0 e)
number_here_is text _ e = absurd cc

pub mnemonic_is : (w : List ℕ) (m : Mnemonic) → mnemonic_named w ≡ Some m → same w (text_of m) ≡ true
mnemonic_is w m h = (bytes_eq-Decides _ _).1 ((mnemonic_named-is w m).0 h ∙ sym (lowercase-text_of m))

pub directive_is : (w : List ℕ) (d : Directive) → directive_named w ≡ Some d → same w (directive_text d) ≡ true
unfolding directive_named
directive_is w d h = find-passes (λ d. same w (directive_text d)) ALL d h

-- a name is none of the operand words
pub no_letter : (w : List ℕ) → is_name w ≡ true → (same w (codes "a") ≡ false) × (same w (codes "x") ≡ false) × (same w (codes "y") ≡ false)
unfolding is_name is_reserved_word
no_letter w h = grind (arith, or_parts, not-true, and_parts)
