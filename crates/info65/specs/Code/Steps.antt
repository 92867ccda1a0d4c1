-- What one call of the lexer does.
use Rattle.std.specs.Prelude.{◌≡◌, Bool, true, false, Option, Some, None, Result, Ok, Err, [], IsOk}
use Rattle.info65.specs.Lexemes.{KindView, LexemeView, word, number, string, character, opening_brace, closing_brace, semicolon}
use Rattle.info65.specs.Tokens.{Stream, TokenView, ended, refused, with_token}
use Rattle.info65.specs.Types.{InfoFault, Lexeme, Next, Token, TokenKind}
use Rattle.info65.specs.declared.syntax.token.TokenKind.TheVariants as kind
use Rattle.info65.specs.declared.syntax.lexer.Next.TheVariants as next

abbrev pub kind_seen : TokenKind → KindView
kind_seen kind.Word = word
kind_seen (kind.Number n) = number n
kind_seen (kind.Text text) = string text.now
kind_seen (kind.Character c) = character c
kind_seen kind.OpenBrace = opening_brace
kind_seen kind.CloseBrace = closing_brace
kind_seen kind.Semicolon = semicolon

abbrev pub lexeme_seen : Lexeme → LexemeView
lexeme_seen l = record { kind = kind_seen l.kind; more = l.more }

abbrev pub seen : Token → TokenView
seen t = record { kind = kind_seen t.kind; text = t.text.now; line = t.line }

-- the first token is taken off; the end and a fault stay
abbrev pub Steps : Stream → Result Next InfoFault → Stream → Type 0
Steps old (Ok (next.Token t)) new = old ≡ with_token (seen t) new
Steps old (Ok (next.End line)) new = (old ≡ ended line) × (new ≡ old)
Steps old (Err e) new = (old ≡ refused e) × (new ≡ old)

-- a token of this kind is taken off, or nothing is
abbrev pub Takes : KindView → Stream → Bool → Stream → Type 0
Takes k old true new = (t : TokenView) × (t.kind ≡ k) × (old ≡ with_token t new)
Takes k old false new = new ≡ old

-- the first token is taken off and given; None comes at the end, which stays, and a fault stays
abbrev pub Hands : Stream → Result (Option Token) InfoFault → Stream → Type 0
Hands old (Ok (Some t)) new = old ≡ with_token (seen t) new
Hands old (Ok None) new = (old.tokens ≡ []) × IsOk old.ending × (new ≡ old)
Hands old (Err e) new = (old ≡ refused e) × (new ≡ old)
