-- The bytes of fragments whose values are numbers.
use Rattle.std.proofs.Common.{◌≡◌, ℕ, true, ◌%◌, ◌<◌, ◌≤◌, List, ◌∷◌, ◌++◌, length, map, Some, refl, ap, arith, length-append, []}
use Rattle.std.specs.List.{list_all, flat_map}
use Rattle.std.proofs.lemmas.Bool.{lt-ltb}
use Rattle.std.proofs.lemmas.List.Elements.{All-head, All-tail}
use Rattle.stmt65.specs.Words.{Definition, Fixed, Fragment, NumberDatum, NumberValue, Single, coding_len, datum_fragments, distance, fragment_bytes, fragment_fits, fragment_len, is_fragment_known, is_known, is_near, value_in, word_in}
use Rattle.map65.specs.Words.{AreBytes, target_of}

-- ---- numbers

pub word_of_number : (all : List Definition) (n : ℕ) → n < 65536 → word_in all (NumberValue n) ≡ Some n
unfolding word_in value_in
word_of_number all n h = rw (lt-ltb n 65536 h) refl

pub number_known : (all : List Definition) (n : ℕ) → is_known all (NumberValue n) ≡ true
unfolding is_known
number_known all n = refl

-- ---- fragments

-- After which `next` is the address: for each table of which Full holds, all names of the fragments are known, their values have room, and
-- these are their bytes.
pub record FragmentsGive (Full : List Definition → Type 0) (next : ℕ) (fragments : List Fragment) (bytes : List ℕ) : Type 0 where
  pub long : coding_len fragments ≡ length bytes
  pub known : (all : List Definition) → Full all → list_all (is_fragment_known all) fragments ≡ true
  pub fits : (all : List Definition) → Full all → list_all (fragment_fits all next) fragments ≡ true
  pub gives : (all : List Definition) → Full all → flat_map (fragment_bytes all next) fragments ≡ bytes

pub no_fragments : (Full : List Definition → Type 0) (next : ℕ) → FragmentsGive Full next [] []
unfolding coding_len
no_fragments Full next = record { long = refl; known = λ all full. refl; fits = λ all full. refl; gives = λ all full. refl }

-- one more fragment in front
pub more_fragments : (Full : List Definition → Type 0) (next : ℕ) (f : Fragment) (fragments : List Fragment) (front bytes : List ℕ)
    → fragment_len f ≡ length front
    → ((all : List Definition) → Full all → is_fragment_known all f ≡ true) → ((all : List Definition) → Full all → fragment_fits all next f ≡ true)
    → ((all : List Definition) → Full all → fragment_bytes all next f ≡ front) → FragmentsGive Full next fragments bytes → FragmentsGive Full next (f ∷ fragments) (front ++ bytes)
unfolding coding_len
more_fragments Full next f fragments front bytes long known fits gives rest = grind (arith, length-append)

pub fixed_gives : (Full : List Definition → Type 0) (next b : ℕ) (fragments : List Fragment) (bytes : List ℕ) → FragmentsGive Full next fragments bytes → FragmentsGive Full next (Fixed b ∷ fragments) (b ∷ bytes)
unfolding fragment_fits fragment_bytes
fixed_gives Full next b fragments bytes rest = more_fragments Full next (Fixed b) fragments (b ∷ []) bytes refl (λ all full. refl) (λ all full. refl) (λ all full. refl) rest

pub low_byte : (n : ℕ) → n < 256 → n % 256 ≡ n
low_byte n h = omega arith

pub single_gives : (Full : List Definition → Type 0) (next n : ℕ) (fragments : List Fragment) (bytes : List ℕ) → n < 256 → FragmentsGive Full next fragments bytes → FragmentsGive Full next (Single (NumberValue n) ∷ fragments) (n ∷ bytes)
unfolding fragment_fits fragment_bytes
single_gives Full next n fragments bytes h rest =
    more_fragments Full next (Single (NumberValue n)) fragments (n ∷ []) bytes refl (λ all full. number_known all n)
    (λ all full. rw (word_of_number all n (omega arith), lt-ltb n 256 h) refl)
    (λ all full. rw (word_of_number all n (omega arith)) (ap (λ (b : ℕ). b ∷ []) (low_byte n h))) rest

-- ---- targets

-- a target that can be written lies in the address space and in range, and its distance is the byte
pub record IsTarget (next b target : ℕ) : Type 0 where
  pub room : target < 65536
  pub near : is_near next (Some target) ≡ true
  pub back : distance next target ≡ b

pub target_is : (next b target : ℕ) → next ≤ 65536 → b < 256 → target_of next b ≡ Some target → IsTarget next b target
unfolding target_of
target_is next b target room h = grind arith

-- ---- data

pub data_give : (Full : List Definition → Type 0) (next : ℕ) (bytes : List ℕ) → AreBytes bytes → FragmentsGive Full next (flat_map datum_fragments (map NumberDatum bytes)) bytes
data_give Full next [] h = no_fragments Full next
data_give Full next (b ∷ bytes) h = single_gives Full next b _ bytes (All-head (λ b. b < 256) b bytes h) (data_give Full next bytes (All-tail (λ b. b < 256) b bytes h))
