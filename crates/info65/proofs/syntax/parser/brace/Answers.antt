use Rattle.std.proofs.Common.{◌∙◌, arith, refl}
use Rattle.std.proofs.lemmas.Result.{err_from_is_err_and}
use Rattle.info65.specs.Words.{finish, opening}
use Rattle.info65.proofs.ReaderLemmas.{brace_refused, brace_taken, missing, read_next}
use Rattle.info65.proofs.syntax.parser.brace.Goals as goal

pub returns-in_err-token-clause-read : goal.returns-in_err-token-clause-read
unfolding finish
returns-in_err-token-clause-read c = λ k o before.
    let p = err_from_is_err_and c.from_residual.result c.from_residual.ensures.1 in
    rw (p.1, p.2) (missing o (opening k) before _ _ refl c.in_err-token.ensures.err)

pub returns-in-OpenBrace-clause-read : goal.returns-in-OpenBrace-clause-read
returns-in-OpenBrace-clause-read c = λ k o before. read_next o (opening k) before _ _ _ c.in_ok-token.ensures.ok ∙ brace_taken o k before _ _ _ refl c.in-OpenBrace.is

pub returns-in_default : goal.returns-in_default
returns-in_default c = record {
  read = λ k o before. rw c.expected.ensures (read_next o (opening k) before _ _ _ c.in_ok-token.ensures.ok ∙ brace_refused o k before _ _ _ refl c.in_default.not-OpenBrace);
  shorter = omega (arith, c.in_ok-token.ensures.shorter);
}
