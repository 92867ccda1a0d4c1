use Rattle.std.proofs.Common.{◌∙◌, arith, refl}
use Rattle.std.proofs.lemmas.Result.{err_from_is_err_and}
use Rattle.info65.specs.Words.{assigned, finish}
use Rattle.info65.proofs.ReaderLemmas.{missing, read_next, separator_refused, separator_taken}
use Rattle.info65.proofs.syntax.parser.due_separator.Goals as goal

pub returns-in_err-token-clause-read : goal.returns-in_err-token-clause-read
unfolding finish
returns-in_err-token-clause-read c = λ k given o before.
    let p = err_from_is_err_and c.from_residual.result c.from_residual.ensures.1 in
    rw (p.1, p.2) (missing o (assigned k given) before _ _ refl c.in_err-token.ensures.err)

pub returns-in-Semicolon-clause-read : goal.returns-in-Semicolon-clause-read
returns-in-Semicolon-clause-read c = λ k given o before. read_next o (assigned k given) before _ _ _ c.in_ok-token.ensures.ok ∙ separator_taken o k given before _ _ _ refl c.in-Semicolon.is

pub returns-in_default : goal.returns-in_default
returns-in_default c = record {
  read = λ k given o before. rw c.expected.ensures (read_next o (assigned k given) before _ _ _ c.in_ok-token.ensures.ok ∙ separator_refused o k given before _ _ _ refl c.in_default.not-Semicolon);
  shorter = omega (arith, c.in_ok-token.ensures.shorter);
}
