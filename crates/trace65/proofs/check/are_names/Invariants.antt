use Rattle.std.proofs.Common.{◌≤◌, length, take}
use Rattle.trace65.specs.Words.{AreMerged}
use Rattle.trace65.proofs.check.are_names.Given as goal

abbrev pub invariant-names : goal.invariant-names
invariant-names l = record {
  given : l.given ≤ length l.base.names;
  label : l.label ≤ length l.labels;
  merged : AreMerged (take l.given l.base.names) (take l.label l.labels) (take l.index l.new.names);
}
