-- Where instructions lead.
use Rattle.std.proofs.Common.{◌≡◌, ℕ, true, inl, inr, Option, Some, None, option_and_then, arith}
use Rattle.map65.specs.Words.{ImageView, MapView, bytes_from, is_inside, only_inside}
use Rattle.reach65.specs.Words.{FlowView, LeadsTo, Op, goal_at, goal_by, goal_of, instruction_at, next_at, next_of}

only_inside-is : (image : ImageView) (t b : ℕ) → only_inside image t ≡ Some b → is_inside image b ≡ true
only_inside-is image t b = grind arith

then-inside : (image : ImageView) (o : Option ℕ) (b : ℕ) → option_and_then (only_inside image) o ≡ Some b → is_inside image b ≡ true
then-inside image None b is = cc
then-inside image (Some t) b is = only_inside-is image t b is

next_of-inside : (f : FlowView) (a : ℕ) (o : Option Op) (b : ℕ) → next_of f a o ≡ Some b → is_inside f.map.image b ≡ true
next_of-inside f a None b is = cc
next_of-inside f a (Some op) b is = grind (arith, then-inside)

goal_by-inside : (m : MapView) (a : ℕ) (o : Option Op) (b : ℕ) → goal_by m a o ≡ Some b → is_inside m.image b ≡ true
goal_by-inside m a None b is = cc
goal_by-inside m a (Some op) b is = then-inside m.image (goal_of op.mnemonic op.mode a (bytes_from m.image a)) b is

-- an instruction leads to addresses of the image alone
pub leads-inside : (f : FlowView) (a b : ℕ) → LeadsTo f a b → is_inside f.map.image b ≡ true
unfolding next_at goal_at
leads-inside f a b (inl is) = next_of-inside f a (instruction_at f.map a) b is
leads-inside f a b (inr is) = goal_by-inside f.map a (instruction_at f.map a) b is
