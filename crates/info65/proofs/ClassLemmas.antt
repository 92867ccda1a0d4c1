-- The table of classes says of each byte what the rules say.
use Rattle.std.proofs.Common.{◌≡◌, ◌∙◌, ◌<◌, ℕ, Bool, false, List, ap, arith, get_or, map, refl, sym}
use Rattle.std.specs.Prelude.{◌/◌, ◌%◌, ◌==◌}
use Rattle.std.specs.List.{range_with_len}
use Rattle.std.proofs.lemmas.List.FromFn.{get_or-map-range_with_len}
use Rattle.info65.specs.Words.{Class, begins_gap, bit_of, classes_of, in_class, is_blank, starts_word}
use Rattle.info65.specs.declared.syntax.lexeme.Class.TheVariants as class

abbrev in_table : Class → ℕ → Bool
in_table c b = classes_of b / bit_of c % 2 == 1

words : map (in_table class.Word) (range_with_len 0 256) ≡ map (in_class class.Word) (range_with_len 0 256)
unfolding classes_of in_class
words = refl

decimals : map (in_table class.Decimal) (range_with_len 0 256) ≡ map (in_class class.Decimal) (range_with_len 0 256)
unfolding classes_of in_class
decimals = refl

hexadecimals : map (in_table class.Hexadecimal) (range_with_len 0 256) ≡ map (in_class class.Hexadecimal) (range_with_len 0 256)
unfolding classes_of in_class
hexadecimals = refl

texts : map (in_table class.Text) (range_with_len 0 256) ≡ map (in_class class.Text) (range_with_len 0 256)
unfolding classes_of in_class
texts = refl

each : (c : Class) → map (in_table c) (range_with_len 0 256) ≡ map (in_class c) (range_with_len 0 256)
each class.Word = words
each class.Decimal = decimals
each class.Hexadecimal = hexadecimals
each class.Text = texts

at_byte : (f : ℕ → Bool) (b : ℕ) → b < 256 → get_or (map f (range_with_len 0 256)) b false ≡ f b
at_byte f b low = get_or-map-range_with_len f 0 256 b b false low (omega arith)

told : (f g : ℕ → Bool) → map f (range_with_len 0 256) ≡ map g (range_with_len 0 256) → (b : ℕ) → b < 256 → f b ≡ g b
told f g same b low = sym (at_byte f b low) ∙ ap (λ (l : List Bool). get_or l b false) same ∙ at_byte g b low

pub class_told : (c : Class) (b : ℕ) → b < 256 → (classes_of b / bit_of c % 2 == 1) ≡ in_class c b
class_told c b low = told (in_table c) (in_class c) (each c) b low

-- the bytes where a word, a blank or something else begins

starts : map (λ b. classes_of b % 4 == 1) (range_with_len 0 256) ≡ map starts_word (range_with_len 0 256)
unfolding classes_of
starts = refl

blanks : map (λ b. classes_of b / 16 % 2 == 1) (range_with_len 0 256) ≡ map is_blank (range_with_len 0 256)
unfolding classes_of
blanks = refl

gaps : map (λ b. classes_of b / 32 == 1) (range_with_len 0 256) ≡ map begins_gap (range_with_len 0 256)
unfolding classes_of
gaps = refl

pub start_told : (b : ℕ) → b < 256 → (classes_of b % 4 == 1) ≡ starts_word b
start_told b low = told (λ b. classes_of b % 4 == 1) starts_word starts b low

pub blank_told : (b : ℕ) → b < 256 → (classes_of b / 16 % 2 == 1) ≡ is_blank b
blank_told b low = told (λ b. classes_of b / 16 % 2 == 1) is_blank blanks b low

pub gap_told : (b : ℕ) → b < 256 → (classes_of b / 32 == 1) ≡ begins_gap b
gap_told b low = told (λ b. classes_of b / 32 == 1) begins_gap gaps b low
