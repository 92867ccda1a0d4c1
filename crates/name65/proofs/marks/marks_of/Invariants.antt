use Rattle.std.proofs.Common.{◌≡◌, ℕ, take}
use Rattle.map65.specs.Words.{is_marked}
use Rattle.name65.specs.Marks.{is_one}
use Rattle.name65.proofs.marks.marks_of.Given as goal

abbrev pub invariant-tags : goal.invariant-tags
invariant-tags l = (a : ℕ) → is_marked l.marks a ≡ is_one l.sort (take l.tag-index l.tags) a
