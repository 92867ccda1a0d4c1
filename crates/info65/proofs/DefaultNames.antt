-- Default names have the form of one.
use Rattle.std.proofs.Common.{◌≡◌, ◌<◌, ◌/◌, ◌%◌, ℕ, true, arith, refl}
use Rattle.std.proofs.lemmas.Bool.Decides.{nat_tests}
use Rattle.text65.specs.Digits.{hex_digit}
use Rattle.info65.specs.Words.{default_name, is_like_default, is_upper_hex}

upper : (d : ℕ) → d < 16 → is_upper_hex (hex_digit d) ≡ true
upper d low = grind (arith, nat_tests)

pub like_default : (a : ℕ) → is_like_default (default_name a) ≡ true
unfolding is_like_default default_name
like_default a = rw (upper (a / 4096 % 16) (omega arith), upper (a / 256 % 16) (omega arith), upper (a / 16 % 16) (omega arith), upper (a % 16) (omega arith)) refl
