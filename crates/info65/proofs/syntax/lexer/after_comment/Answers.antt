use Rattle.std.proofs.Common.{◌∙◌, ℕ, List, ap, arith, get_or, sym}
use Rattle.std.proofs.lemmas.Bool.{eq-eqb, eqb-true}
use Rattle.std.proofs.lemmas.List.{drop_all}
use Rattle.info65.specs.Words.{tokens_of}
use Rattle.info65.proofs.TokenLemmas.{to_line_feed}
use Rattle.info65.proofs.syntax.lexer.after_comment.Goals as goal

pub returns-in-Some-clause-tokens : goal.returns-in-Some-clause-tokens
returns-in-Some-clause-tokens c = λ line.
    let bytes : List ℕ = c.args.bytes.now in
    let first = c.in-Some.ensures.0 in
    to_line_feed line c.in-Some.len bytes (omega (arith, first.high)) (λ k lt is. first.before k (omega arith) lt (eq-eqb (get_or bytes k 0) 10 is)) (λ _. eqb-true (get_or bytes c.in-Some.len 0) 10 c.in-Some.ensures.1)
    ∙ ap (tokens_of line) (sym c.split_at.ensures.back)

pub returns-in-None-clause-tokens : goal.returns-in-None-clause-tokens
returns-in-None-clause-tokens c = λ line.
    let bytes : List ℕ = c.args.bytes.now in
    to_line_feed line _ bytes (omega arith) (λ k lt is. c.in-None.ensures k (omega arith) lt (eq-eqb (get_or bytes k 0) 10 is)) (λ lt. absurd (omega (arith, lt)))
    ∙ ap (tokens_of line) (drop_all _ bytes (omega arith))
