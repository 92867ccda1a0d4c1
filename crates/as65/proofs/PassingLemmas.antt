-- The lines are passed over once, as addresses rise.
use Rattle.std.proofs.Common.{◌≡◌, ◌+◌, ◌-◌, ◌≤◌, ◌++◌, ℕ, zero, suc, List, [], ◌∷◌, arith, append_assoc, drop, length, refl, subst}
use Rattle.std.proofs.lemmas.Bool.Decides.{nat_tests}
use Rattle.std.proofs.lemmas.List.Sums.{prefix_len-le-length}
use Rattle.stmt65.specs.Words.{line_past}
use Rattle.as65.specs.Types.{Reached}
use Rattle.as65.specs.Words.{AreDifferences, Compared, IsReached, Stretch, change_text, difference_lines, ended, line_of, origin_text, stretch_bytes}

-- those that end so, of which some come first
pub ended_left : (a k : ℕ) (xs : List ℕ) → k ≤ ended a xs → ended a (drop k xs) + k ≡ ended a xs
unfolding ended
ended_left a zero xs few = omega arith
ended_left a (suc k) [] few = absurd (omega arith)
ended_left a (suc k) (x ∷ xs) few = let rest : k ≤ ended a xs → ended a (drop k xs) + k ≡ ended a xs = ended_left a k xs in grind (arith, nat_tests)

-- more lines end at a greater address or before it
pub ended_rises : (m n : ℕ) (xs : List ℕ) → m ≤ n → ended m xs ≤ ended n xs
unfolding ended
ended_rises m n [] less = omega arith
ended_rises m n (x ∷ xs) less = let rest = ended_rises m n xs less in grind (arith, nat_tests)

pub ended_within : (a : ℕ) (xs : List ℕ) → ended a xs ≤ length xs
unfolding ended
ended_within a xs = prefix_len-le-length _ xs

pub ruleset passing = (ended_left, ended_rises, ended_within)

-- the line of a stretch was appended, with the line that was reached for its first byte
pub one_line : (c : Compared) (s : Stretch) (r : Reached) (out change new : List ℕ) (later : List Stretch) → IsReached c.lines r → r.above ≡ ended (c.start + s.at) c.ends
    → change ≡ out ++ change_text (c.start + s.at) (stretch_bytes s c.image) (stretch_bytes s c.bytes) → new ≡ change ++ origin_text (r.above + 1) r.line.now
    → AreDifferences c (out ++ difference_lines c (s ∷ later)) → AreDifferences c (new ++ difference_lines c later)
unfolding ended
one_line c s r out change new later is above first second whole =
    let number : line_past (c.start + s.at) c.ends ≡ r.above + 1 = omega (arith, above) in
    let here : r.above + 1 - 1 ≡ r.above = omega arith in
    let line : line_of c s ≡ change_text (c.start + s.at) (stretch_bytes s c.image) (stretch_bytes s c.bytes) ++ origin_text (r.above + 1) r.line.now = rw (number, here, is.line) refl in
    subst (AreDifferences c) (rw (second, first, line) (simp append_assoc refl)) whole
