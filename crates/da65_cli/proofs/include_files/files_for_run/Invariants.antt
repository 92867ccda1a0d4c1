use Rattle.std.proofs.Common.{◌≡◌, map, take}
use Rattle.da65.specs.Words.{files_seen}
use Rattle.da65_cli.specs.Code.IncludeFiles.{content_seen}
use Rattle.da65_cli.proofs.include_files.files_for_run.Given as goal

abbrev pub invariant-loop-file : goal.invariant-loop-file
invariant-loop-file l = files_seen l.lent.items ≡ map content_seen (take l.file-index l.files)
