-- The tokens of a text with their lines, and how they end.
use Rattle.std.specs.Prelude.{◌≡◌, ◌==◌, ◌+◌, ◌&&◌, ◌||◌, ℕ, zero, suc, Bool, true, false, List, [], ◌∷◌, Result, Ok, Err, take, slice_index, if◌then◌else◌}
use Rattle.info65.specs.Lexemes.{KindView, LexemeView, lexeme_at}
use Rattle.info65.specs.Types.{InfoFault}

-- a token, without where its text lies in memory
pub record TokenView : Type 0 where
  pub kind : KindView
  pub text : List ℕ
  pub line : ℕ

-- tokens, and then the end, on a line, or the first fault of a token
pub record Stream : Type 0 where
  pub tokens : List TokenView
  pub ending : Result ℕ InfoFault

abbrev pub ended : ℕ → Stream
ended line = record { tokens = []; ending = Ok line }

abbrev pub refused : InfoFault → Stream
refused e = record { tokens = []; ending = Err e }

abbrev pub with_token : TokenView → Stream → Stream
with_token t s = record s { tokens = t ∷ s.tokens }

-- space, TAB and CR; a line feed is a blank too, and counts a line
abbrev pub is_blank : ℕ → Bool
is_blank b = b == 32 || b == 9 || b == 13

-- `#` or `//`
abbrev pub opens_comment : List ℕ → Bool
opens_comment bs = slice_index bs 0 == 35 || (slice_index bs 0 == 47 && slice_index bs 1 == 47)

abbrev pub token_of : ℕ → List ℕ → LexemeView → TokenView
token_of line bytes p = record { kind = p.kind; text = take (p.more + 1) bytes; line = line }

abbrev pub found : ℕ → List ℕ → Result LexemeView InfoFault → (ℕ → Stream) → Stream
found line bytes (Err e) after = refused e
found line bytes (Ok p) after = with_token (token_of line bytes p) (after p.more)

-- the tokens of bytes, of which the first `skip` belong to a token that is passed over, and which may
-- begin within a comment; a comment ends at a line feed
unfoldable pub tokens_after : ℕ → Bool → ℕ → List ℕ → Stream
tokens_after skip in_comment line [] = ended line
tokens_after (suc skip) in_comment line (b ∷ bs) = tokens_after skip in_comment line bs
tokens_after zero in_comment line (b ∷ bs) =
    if b == 10 then tokens_after zero false (line + 1) bs
    else (if in_comment then tokens_after zero true line bs
    else (if is_blank b then tokens_after zero false line bs
    else (if opens_comment (b ∷ bs) then tokens_after zero true line bs
    else found line (b ∷ bs) (lexeme_at line (b ∷ bs)) (λ more. tokens_after more false line bs))))

-- the tokens of bytes that begin on a line
abbrev pub tokens_of : ℕ → List ℕ → Stream
tokens_of line bytes = tokens_after 0 false line bytes

-- the bytes are at their end, or at a token or a fault
abbrev pub stops : List ℕ → Type 0
stops [] = Unit {0}
stops (b ∷ bs) = ((b == 10) || (is_blank b || opens_comment (b ∷ bs))) ≡ false
