use Rattle.std.proofs.Common.{◌≡◌, drop}
use Rattle.std.specs.Str.{str_eq_ignore_ascii_case}
use Rattle.info65.proofs.syntax.words.is_word.Given as goal

abbrev pub invariant-loop-place : goal.invariant-loop-place
invariant-loop-place l = str_eq_ignore_ascii_case (drop l.place l.text) (drop l.place l.word) ≡ str_eq_ignore_ascii_case l.text l.word
