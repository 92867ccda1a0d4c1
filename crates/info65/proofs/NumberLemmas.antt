-- A number that is read digit by digit, and kept no greater than a limit.
use Rattle.std.proofs.Common.{◌≡◌, ◌∙◌, ◌==◌, ℕ, ◌+◌, ◌*◌, ◌≤◌, ◌<◌, ◌&&◌, Bool, List, [], ◌∷◌, length, get_or, map, min, suc, take, true, ap, arith, eqb-true, refl, sym}
use Rattle.std.proofs.lemmas.Bool.Decides.{nat_tests}
use Rattle.std.proofs.lemmas.List.{take_all}
use Rattle.std.proofs.lemmas.List.Folds.{length-prefix_len}
use Rattle.std.proofs.lemmas.List.FromFn.{get_or-map-range_with_len}
use Rattle.std.specs.List.{prefix_len, range_with_len}
use Rattle.std.specs.Prelude.{Some, None, nat_le, nat_lt, if◌then◌else◌}
use Rattle.info65.specs.Words.{AreDigitsIn, Class, are_digits, in_class, number_in, number_of_digits}
use Rattle.info65.specs.Types.{DIGITS}
use Rattle.info65.specs.declared.syntax.lexeme.Class.TheVariants as class
use Rattle.info65.proofs.Cases.{by_test}
use Rattle.std.proofs.Math.Nat.{mul-le-mul_left}
use Rattle.std.specs.Char.{digit_value, is_digit}
use Rattle.std.specs.Str.Parse.{digits_value}

scaled : (radix n : ℕ) → 1 ≤ radix → n ≤ n * radix
scaled radix n one = omega (arith, mul-le-mul_left n one)

-- what is above the limit may be cut to it
pub capped : (radix limit n digit : ℕ) → 1 ≤ radix → min (min n limit * radix + digit) limit ≡ min (n * radix + digit) limit
capped radix limit n digit one = grind (arith, scaled)

-- the table says of each byte what it is worth
told : map (λ b. get_or DIGITS b 0) (range_with_len 0 256) ≡ map digit_value (range_with_len 0 256)
told = refl

at_byte : (f : ℕ → ℕ) (b : ℕ) → b < 256 → get_or (map f (range_with_len 0 256)) b 0 ≡ f b
at_byte f b low = get_or-map-range_with_len f 0 256 b b 0 low (omega arith)

pub digit_told : (b : ℕ) → b < 256 → get_or DIGITS b 0 ≡ digit_value b
digit_told b low = sym (at_byte (λ b. get_or DIGITS b 0) b low) ∙ ap (λ (l : List ℕ). get_or l b 0) told ∙ at_byte digit_value b low

-- all are digits exactly where the digits at the front are all
pub all_digits : (radix : ℕ) (ds : List ℕ) → (prefix_len (λ d. is_digit d radix) ds == length ds) ≡ are_digits radix ds
all_digits radix [] = refl
all_digits radix (d ∷ ds) = by_test (is_digit d radix) (λ hit. let one : 1 + prefix_len (λ b. is_digit b radix) ds ≡ suc (prefix_len (λ b. is_digit b radix) ds) = omega arith in let more = all_digits radix ds in rw (hit, one) (grind arith)) (λ miss. rw miss (grind arith))

-- the number that digits write, by that of those at the front
pub whole_number : (radix : ℕ) (ds : List ℕ) (n value : ℕ) → n ≡ prefix_len (λ d. is_digit d radix) ds → value ≡ min (digits_value radix (take n ds)) 0x1_0000_0000
    → number_of_digits radix ds ≡ (if nat_lt 0 n && (n == length ds) then Some value else None)
unfolding number_of_digits
whole_number radix ds n value is number =
    let all = all_digits radix ds in
    by_test (n == length ds) (λ hit. let whole = take_all n ds (omega (arith, eqb-true n (length ds) hit)) in grind (arith, nat_tests)) (λ miss. grind (arith, nat_tests))

-- the digits at the front of a text are digits
front_digits : (radix : ℕ) (ds : List ℕ) → are_digits radix (take (prefix_len (λ d. is_digit d radix) ds) ds) ≡ true
front_digits radix [] = refl
front_digits radix (d ∷ ds) = by_test (is_digit d radix) (λ hit. let one : 1 + prefix_len (λ d. is_digit d radix) ds ≡ suc (prefix_len (λ d. is_digit d radix) ds) = omega arith in rw (hit, one, hit) (front_digits radix ds)) (λ miss. rw miss refl)

-- as many elements at the front pass two tests that say the same
same_front : (p q : ℕ → Bool) (xs : List ℕ) → ((x : ℕ) → p x ≡ q x) → prefix_len p xs ≡ prefix_len q xs
same_front p q [] same = refl
same_front p q (x ∷ xs) same = rw (same x, same_front p q xs same) refl

-- the classes of digits are those of the radixes
pub decimals : AreDigitsIn class.Decimal 10
unfolding in_class
decimals b = grind (arith, nat_tests)

pub hexadecimals : AreDigitsIn class.Hexadecimal 16
unfolding in_class
hexadecimals b = grind (arith, nat_tests)

pub ruleset digit_classes = (decimals, hexadecimals)

-- the number that the digits at the front of a text write
pub front_number : (c : Class) (radix : ℕ) (bs : List ℕ) (n value : ℕ) → AreDigitsIn c radix → n ≡ prefix_len (λ d. is_digit d radix) bs → value ≡ min (digits_value radix (take n bs)) 0x1_0000_0000
    → (prefix_len (in_class c) bs ≡ n) × (number_in radix (take n bs) ≡ (if n == 0 then None else (if nat_le value 0xFFFF_FFFF then Some value else None)))
unfolding number_in
front_number c radix bs n value of is number =
    let long = length-prefix_len (λ d. is_digit d radix) bs in
    let digits = front_digits radix bs in
    (same_front (in_class c) (λ d. is_digit d radix) bs of ∙ sym is, grind (arith, nat_tests))

-- ---- a number that is at most a limit

-- what digits give where a number may be at most so great: `bad` if they write none, `high` if it is greater
abbrev pub number_upto : {R : Type 0} → R → R → (ℕ → R) → ℕ → ℕ → List ℕ → R
number_upto bad high good radix most ds =
    if length ds == 0 then bad
    else (if are_digits radix ds then (if nat_le (digits_value radix ds) most then good (digits_value radix ds) else high)
    else bad)

pub number_none : {R : Type 0} (bad high : R) (good : ℕ → R) (radix most : ℕ) (ds : List ℕ) → None ≡ number_of_digits radix ds → bad ≡ number_upto bad high good radix most ds
unfolding number_of_digits
number_none bad high good radix most ds h = grind arith

pub number_small : {R : Type 0} (bad high : R) (good : ℕ → R) (radix most : ℕ) (ds : List ℕ) (value : ℕ)
    → Some value ≡ number_of_digits radix ds → most < 0x1_0000_0000 → value ≤ most → good value ≡ number_upto bad high good radix most ds
unfolding number_of_digits
number_small bad high good radix most ds value h room small = grind (arith, nat_tests)

pub number_great : {R : Type 0} (bad high : R) (good : ℕ → R) (radix most : ℕ) (ds : List ℕ) (value : ℕ)
    → Some value ≡ number_of_digits radix ds → most < value → high ≡ number_upto bad high good radix most ds
unfolding number_of_digits
number_great bad high good radix most ds value h great = grind (arith, nat_tests)
