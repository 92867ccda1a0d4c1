-- What a function of the reader found, against what the definition reads.
use Rattle.std.specs.Prelude.{◌≡◌, ◌≤◌, Bool, List, length, drop, Option, Some, None, MatchOption, Result, IfOk}
use Rattle.std.specs.Bool.{OnFalse, OnTrue}
use Rattle.stmt65.specs.Parts.{Part}

-- What the function returned, seen so, and the parts that it left, are what is read of the parts that there were.
pub record Reads {X Y : Type 0} (seen : X → Y) (result : Option X) (read : List Part → Option (Y × List Part)) (old new : List Part) : Type 0 where
  pub is : MatchOption result (read old ≡ None) (λ x. read old ≡ Some (seen x, new))
  pub fewer : length new ≤ length old

-- The function took the first part if it passes the test, and returned whether it does.
pub record Eats (test : List Part → Bool) (old : List Part) (result : Bool) (new : List Part) : Type 0 where
  pub value : result ≡ test old
  pub taken : OnTrue result (new ≡ drop 1 old)
  pub left : OnFalse result (new ≡ old)
  pub fewer : length new ≤ length old

-- What the function returned, seen so, is what is read.
abbrev pub Gives : {X Y : Type 0} → (X → Y) → Option X → Option Y → Type 0
Gives seen None read = read ≡ None
Gives seen (Some x) read = read ≡ Some (seen x)

-- the same of a function that may be out of memory
abbrev pub GivesIfOk : {X Y E : Type 0} → (X → Y) → Result (Option X) E → Option Y → Type 0
GivesIfOk seen result read = IfOk result (λ found. Gives seen found read)
