use Rattle.std.proofs.Common.{◌≡◌, ◌++◌, drop, map}
use Rattle.std.specs.List.{flat_map}
use Rattle.usage65.specs.Words.{choice_of, help_line}
use Rattle.usage65.proofs.program.put_help_lines.Given as goal

-- the lines so far, and then those of the options that are left
abbrev pub invariant-lines : goal.invariant-lines
invariant-lines l =
    l.out.items ++ flat_map help_line (map choice_of (drop l.choice-index l.choices)) ≡ l.initial.out.items ++ flat_map help_line (map choice_of l.choices)
