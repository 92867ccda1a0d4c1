-- The cells of a table by mnemonic and mode, while they are filled.
use Rattle.std.proofs.Common.{◌≡◌, ℕ, ◌∙◌, ◌+◌, ◌<◌, Bool, true, List, length, Option, Some, None, refl, sym, ap, arith, inl, inr, slice_index_or, if◌then◌else◌}
use Rattle.std.specs.Prelude.{nat_lt, replicate}
use Rattle.std.proofs.lemmas.Bool.{cases_eq, cond-false, cond-true, le-ltb, lt-ltb, ltb-true}
use Rattle.std.proofs.lemmas.Bool.Decides.{nat_tests}
use Rattle.std.proofs.lemmas.List.{get_or-set_same, get_or-set_other, get_or-replicate, length-set}
use denote.Enum.Bare.{tag_one}
use denote.Enum.Declared.{tag_of}
use Rattle.isa65.specs.contracts.mnemonic.Mnemonic as mnemonic
use Rattle.isa65.specs.contracts.mode.Mode as mode
use Rattle.isa65.specs.Words.{Adc, Imp, IsSound, Mnemonic, Mode, Op, Table, decoded, encoded, encoded-decoded, opcode-lt, place_of, with_code}

mnemonic-small : (m : Mnemonic) → nat_lt (tag_of mnemonic.the_type m) 96 ≡ true
mnemonic-small Adc = refl
mnemonic-small _ = refl

mode-lt : (x : Mode) → tag_of mode.the_type x < 16
mode-lt Imp = omega arith
mode-lt _ = omega arith

pub place_lt : (m : Mnemonic) (x : Mode) → place_of m x < 1536
place_lt m x = omega (arith, ltb-true (tag_of mnemonic.the_type m) 96 (mnemonic-small m), mode-lt x)

abbrev op_of : Mnemonic → Mode → Op
op_of m x = record { mnemonic = m; mode = x }

-- a cell is that of one pair alone
same_pair : (op : Op) (m : Mnemonic) (x : Mode) → place_of m x ≡ place_of op.mnemonic op.mode → op_of m x ≡ op
same_pair op m x e =
    let name = tag_one mnemonic.the_type tt m op.mnemonic (omega (arith, e, mode-lt x, mode-lt op.mode)) in
    let way = tag_one mode.the_type tt x op.mode (omega (arith, e, mode-lt x, mode-lt op.mode)) in
    λ i. record { mnemonic = name i; mode = way i }

-- the opcode, if it is below k
abbrev pub if_below : ℕ → Option ℕ → Option ℕ
if_below k None = None
if_below k (Some b) = if nat_lt b k then Some b else None

none-below : (o : Option ℕ) → None ≡ if_below 0 o
none-below None = refl
none-below (Some b) = sym (cond-false (nat_lt b 0) (Some b) None (le-ltb b 0 (omega arith)))

below-other : (k : ℕ) (o : Option ℕ) → (o ≡ Some k → ⊥) → if_below k o ≡ if_below (k + 1) o
below-other k None other = refl
below-other k (Some b) other =
    let apart : b ≡ k → ⊥ = λ e. other (ap Some e) in
    let alike : nat_lt b k ≡ nat_lt b (k + 1) = grind (arith, nat_tests) in
    ap (λ (t : Bool). if t then Some b else None) alike

all-below : (k : ℕ) (o : Option ℕ) → ((b : ℕ) → o ≡ Some b → b < k) → if_below k o ≡ o
all-below k None low = refl
all-below k (Some b) low = cond-true (nat_lt b k) (Some b) None (lt-ltb b k (low b refl))

-- the cells of the forms whose opcode is below k have it, and no other cell has one
pub record IsFilled (t : Table) (k : ℕ) (codes : List (Option ℕ)) : Type 0 where
  pub size : length codes ≡ 1536
  pub each : (m : Mnemonic) (x : Mode) → slice_index_or codes (place_of m x) None ≡ if_below k (encoded t m x)

-- no cell has an opcode
pub filled-none : (t : Table) → IsFilled t 0 (replicate 1536 None)
filled-none t = record { size = refl; each = λ m x. get_or-replicate 1536 (place_of m x) None None (place_lt m x) ∙ none-below (encoded t m x) }

module _ (t : Table) (sound : IsSound t) where
  -- the byte k is looked at
  pub filled-next : (k : ℕ) (codes : List (Option ℕ)) (o : Option Op) → decoded t k ≡ o → IsFilled t k codes → IsFilled t (k + 1) (with_code codes k o)
  filled-next k codes None none filled = record {
    size = filled.size;
    each = λ m x. filled.each m x ∙ below-other k (encoded t m x) (λ e. let is = (encoded-decoded t sound k (op_of m x)).0 e in cc);
  }
  filled-next k codes (Some op) some filled = record {
    size = length-set codes here (Some k) ∙ filled.size;
    each = λ m x. elim (cases_eq (place_of m x) here) [
      | inl same ↦ (let code : encoded t m x ≡ Some k = (encoded-decoded t sound k (op_of m x)).1 (some ∙ ap Some (sym (same_pair op m x same))) in
          rw (same, code) (get_or-set_same codes here (Some k) None room ∙ sym (all-below (k + 1) (Some k) (λ b e. let is : k ≡ b = cc in omega arith))))
      | inr apart ↦ get_or-set_other codes here (place_of m x) (Some k) None apart
          ∙ filled.each m x
          ∙ below-other k (encoded t m x)
          (λ e. let is = (encoded-decoded t sound k (op_of m x)).0 e in
          let pair : op_of m x ≡ op = cc in apart (ap (λ (p : Op). place_of p.mnemonic p.mode) pair))
    ];
  }
    where
      here : ℕ
      here = place_of op.mnemonic op.mode

      room : here < length codes
      room = omega (arith, place_lt op.mnemonic op.mode, filled.size)

  -- all bytes have been looked at
  pub filled-all : (codes : List (Option ℕ)) → IsFilled t 256 codes → (m : Mnemonic) (x : Mode) → slice_index_or codes (place_of m x) None ≡ encoded t m x
  filled-all codes filled m x = filled.each m x ∙ all-below 256 (encoded t m x) (λ b is. opcode-lt t sound b (op_of m x) ((encoded-decoded t sound b (op_of m x)).0 is))
