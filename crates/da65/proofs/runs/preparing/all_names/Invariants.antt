use Rattle.std.proofs.Common.{◌≡◌, List, drop}
use Rattle.info65.specs.Words.{NameView, with_names}
use Rattle.da65.specs.Words.{files_seen, with_includes}
use Rattle.da65.proofs.runs.preparing.all_names.Given as goal

abbrev pub invariant-loop-index : goal.invariant-loop-index
invariant-loop-index g l = record {
  names : (names : List NameView) → with_names l.included names ≡ with_names l.info names;
  rest : with_includes (files_seen l.files) l.index (drop l.index l.included.includes) l.included ≡ with_includes (files_seen l.files) 0 l.info.includes l.info;
}
