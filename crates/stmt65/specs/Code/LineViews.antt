-- What is added to the line that is printed.
use Rattle.arrayvec.specs.ArrayVec.{ArrayVec, Extends, array_vec_len}
use Rattle.std.specs.Prelude.{◌≡◌, ◌≤◌, ℕ, ◌+◌, ◌*◌, List, ◌++◌, length}
use Rattle.std.specs.List.{flat_map}
use Rattle.stmt65.specs.Line.{with_fields}
use Rattle.stmt65.specs.Statements.{Field, comma_list, next_text}

-- a text of at most so many bytes
pub record Appends (old : ArrayVec ℕ) (text : List ℕ) (new : ArrayVec ℕ) (most : ℕ) : Type 0 where
  pub items : Extends old text new
  pub len : array_vec_len new ≤ array_vec_len old + most

-- further fields, and the line has at most so many bytes
pub record Prints (old : ArrayVec ℕ) (fields : List Field) (new : ArrayVec ℕ) (most : ℕ) : Type 0 where
  pub items : new.items ≡ with_fields old.items fields
  pub len : array_vec_len new ≤ most

-- the texts of a list, up to those that are left, each after a comma
abbrev pub Lists : {X : Type 0} → (X → List ℕ) → ArrayVec ℕ → List X → ArrayVec ℕ → List X → Type 0
Lists text old all new left = new.items ++ flat_map (next_text text) left ≡ old.items ++ comma_list text all

-- the length with so many more for each of these bytes
abbrev pub len_with : ArrayVec ℕ → ℕ → List ℕ → ℕ
len_with line count bytes = array_vec_len line + count * length bytes
