-- Where the tokens of a text stand in it.
use Rattle.std.specs.Prelude.{◌≡◌, ◌==◌, ◌+◌, ◌||◌, ℕ, Bool, true, false, not, List, [], ◌∷◌, ◌++◌, Result, Ok, Err, take, drop, if◌then◌else◌}
use Rattle.info65.specs.Lexemes.{lexeme_at}
use Rattle.info65.specs.Tokens.{TokenView, is_blank, opens_comment, tokens_of}
use Rattle.info65.specs.Types.{InfoFault}

-- how many line feeds stand in bytes
abbrev pub feeds : List ℕ → ℕ
feeds [] = 0
feeds (b ∷ bs) = if b == 10 then feeds bs + 1 else feeds bs

-- no token stands in bytes that may begin within a comment: blanks, line feeds, and comments, of which
-- the last may be open at the end where `last` says so
abbrev pub is_gap : Bool → Bool → List ℕ → Bool
is_gap last in_comment [] = if last then true else not in_comment
is_gap last in_comment (b ∷ bs) =
    if b == 10 then is_gap last false bs
    else (if in_comment then is_gap last true bs
    else (if is_blank b then is_gap last false bs
    else (if opens_comment (b ∷ bs) then is_gap last true bs
    else false)))

-- After a gap on a line stands this token: its line is that of the gap's end, it is what its first byte
-- begins there, and it takes `more` bytes after its first.
pub record IsNext (in_comment : Bool) (line : ℕ) (bytes : List ℕ) (t : TokenView) (rest : List ℕ) (more : ℕ) : Type 0 where
  pub gap : List ℕ
  pub parts : bytes ≡ gap ++ rest
  pub blank : is_gap false in_comment gap ≡ true
  pub counted : t.line ≡ line + feeds gap
  pub is : lexeme_at t.line rest ≡ Ok (record { kind = t.kind; more = more })
  pub text : t.text ≡ take (more + 1) rest

-- a byte that is no blank, no line feed, and does not begin a comment
abbrev pub is_solid : List ℕ → Bool
is_solid [] = false
is_solid (b ∷ bs) = not (b == 10 || (is_blank b || opens_comment (b ∷ bs)))

-- After a gap stands a byte that belongs to no gap, and no token begins with it.
pub record IsNoToken (in_comment : Bool) (line : ℕ) (bytes : List ℕ) (e : InfoFault) : Type 0 where
  pub gap : List ℕ
  pub rest : List ℕ
  pub parts : bytes ≡ gap ++ rest
  pub blank : is_gap false in_comment gap ≡ true
  pub solid : is_solid rest ≡ true
  pub is : lexeme_at (line + feeds gap) rest ≡ Err e

-- only a gap is left, and its end has this line
pub record IsGap (in_comment : Bool) (line : ℕ) (bytes : List ℕ) (last : ℕ) : Type 0 where
  pub blank : is_gap true in_comment bytes ≡ true
  pub counted : last ≡ line + feeds bytes

abbrev pub Ends : Bool → ℕ → List ℕ → Result ℕ InfoFault → Type 0
Ends in_comment line bytes (Ok last) = IsGap in_comment line bytes last
Ends in_comment line bytes (Err e) = IsNoToken in_comment line bytes e

-- these tokens stand in the bytes, one after the other, and then they end so
abbrev pub Stand : Bool → ℕ → List ℕ → List TokenView → Result ℕ InfoFault → Type 0
Stand in_comment line bytes [] ending = Ends in_comment line bytes ending
Stand in_comment line bytes (t ∷ ts) ending =
    (rest : List ℕ) × (more : ℕ) × IsNext in_comment line bytes t rest more × Stand false t.line (drop (more + 1) rest) ts ending

-- The tokens of a text stand in it in their order, with nothing but blanks and comments between them; each
-- has the slice of the text that it takes, and the line feeds before it count its line.
abbrev pub TokensStand : Type 0
TokensStand = (bytes : List ℕ) → Stand false 1 bytes (tokens_of 1 bytes).tokens (tokens_of 1 bytes).ending
