use Rattle.std.proofs.Common.{◌≡◌, drop}
use Rattle.da65.specs.Words.{file_named, files_seen}
use Rattle.da65.proofs.runs.files.file_named.Given as goal

abbrev pub invariant-loop-file : goal.invariant-loop-file
invariant-loop-file l = file_named (files_seen (drop l.file-index l.files)) l.name ≡ file_named (files_seen l.files) l.name
