use Rattle.std.proofs.Common.{◌≡◌, ◌++◌, drop, map}
use Rattle.std.specs.List.{flat_map}
use Rattle.stmt65.specs.Words.{definition_of}
use Rattle.as65.specs.Words.{label_line, labels_of}
use Rattle.as65.proofs.labels.label_lines.Given as goal

-- the lines so far, and then those of the names that are left
abbrev pub invariant-names : goal.invariant-names
invariant-names l = l.out.items ++ flat_map label_line (map definition_of (drop l.name-index l.definitions)) ≡ labels_of (map definition_of l.definitions)
