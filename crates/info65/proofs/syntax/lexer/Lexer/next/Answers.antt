use Rattle.std.proofs.Common.{rules, ◌≡◌, ◌+◌, ◌∙◌, ℕ, ap, ap₂, drop, false, refl, sym, List}
use Rattle.std.proofs.lemmas.Result.{err_from_is_err_and}
use Rattle.std.specs.Prelude.{Result}
use Rattle.info65.specs.Words.{InfoFault, LexemeView, found, kind_seen, lexeme_at, tokens_of, with_token}
use Rattle.info65.proofs.TokenLemmas.{at_end, at_token}
use Rattle.info65.proofs.syntax.lexer.Lexer.next.Goals as goal
use Rattle.info65.proofs.syntax.lexer.Lexer.next.Goals.{After-lexeme_at}

pub returns-then-is_empty : goal.returns-then-is_empty
returns-then-is_empty c = (sym c.self.view_is ∙ sym c.after_blanks-line.ensures.tokens ∙ at_end false _ _ (search rules), refl)

-- the tokens that are left begin with what was read
begins : (c : After-lexeme_at) (r : Result LexemeView InfoFault) → let line : ℕ = c.after_blanks-line.result.1 in let rest : List ℕ = c.after_blanks-line.result.0.now in lexeme_at line rest ≡ r → c.args.self.now ≡ found line rest r (λ more. tokens_of line (drop (more + 1) rest))
begins c r is =
    let line = c.after_blanks-line.result.1 in
    let rest = c.after_blanks-line.result.0.now in
    sym c.self.view_is ∙ sym c.after_blanks-line.ensures.tokens ∙ at_token line rest (search rules) c.after_blanks-line.ensures.stops
    ∙ ap (λ (r : Result LexemeView InfoFault). found line rest r (λ more. tokens_of line (drop (more + 1) rest))) is

pub returns-in_err-lexeme : goal.returns-in_err-lexeme
returns-in_err-lexeme c =
    let p = err_from_is_err_and c.from_residual.result c.from_residual.ensures.1 in
    rw (p.1, p.2) (begins (goal.at.returns-in_err-lexeme c).After-lexeme_at _ c.in_err-lexeme.ensures.value, refl)

pub returns : goal.returns
returns c =
    let line : ℕ = c.after_blanks-line.result.1 in
    let kind = kind_seen c.in_ok-lexeme.lexeme.kind in
    begins (goal.at.returns c).After-lexeme_at _ c.in_ok-lexeme.ensures.value
    ∙ ap₂ (λ (text left : List ℕ). with_token (record { kind = kind; text = text; line = line }) (tokens_of line left)) (sym c.split_at.ensures.front) (sym c.split_at.ensures.back)
