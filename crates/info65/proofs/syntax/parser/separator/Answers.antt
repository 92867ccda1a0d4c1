use Rattle.std.proofs.Common.{◌∙◌, ap, arith, length, refl}
use Rattle.info65.specs.Words.{Stream, assigned}
use Rattle.info65.specs.declared.syntax.token.TokenKind.TheVariants as kind
use Rattle.info65.proofs.ReaderLemmas.{read_next, separator_taken}
use Rattle.info65.proofs.syntax.parser.separator.Goals as goal

pub returns-then-takes_semicolon : goal.returns-then-takes_semicolon
returns-then-takes_semicolon c =
    let taken = c.if-takes_semicolon.ensures in
    record {
      read = λ k given o before. read_next o (assigned k given) before taken.0 _ _ taken.2 ∙ separator_taken o k given before taken.0 kind.Semicolon _ taken.1 refl;
      shorter = omega (arith, ap (λ (s : Stream). length s.tokens) taken.2);
    }

pub returns : goal.returns
returns c = rw c.if-takes_semicolon.ensures at c.due_separator.ensures
