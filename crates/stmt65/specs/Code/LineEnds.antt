-- The address after each line of a text, as it is kept.
use Rattle.std.specs.Prelude.{ℕ, List, ◌∷◌, ◌++◌, replicate}
use Rattle.std.specs.List.{flat_map}
use Rattle.stmt65.specs.declared.assembling.line_ends.EndsIter.{EndsIter}
use Rattle.stmt65.specs.declared.assembling.line_ends.Step.{Step}

-- that after a line, and after the lines that follow with the same
abbrev pub ends_at : Step → List ℕ
ends_at s = s.end ∷ replicate s.more s.end

abbrev pub ends_of : List Step → List ℕ
ends_of = flat_map ends_at

-- those of the lines that are left
abbrev pub ends_left : EndsIter → List ℕ
ends_left e = replicate e.more e.end ++ ends_of e.rest.now
