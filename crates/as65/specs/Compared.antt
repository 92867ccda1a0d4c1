-- What is compared.
use Rattle.std.specs.Prelude.{ℕ, List}
use Rattle.text65.specs.Lines.{text_lines}
use Rattle.map65.specs.Words.{ImageView}
use Rattle.as65.specs.Assembled.{AssembledView}

-- the address of both first bytes, the bytes of the image and of the listing; the lines of the listing, and the address
-- after each of them
pub record Compared : Type 0 where
  pub start : ℕ
  pub image : List ℕ
  pub bytes : List ℕ
  pub lines : List (List ℕ)
  pub ends : List ℕ

-- an image and a listing as what is compared
abbrev pub compared : ImageView → AssembledView → Compared
compared image a = record {
  start = image.start;
  image = image.bytes;
  bytes = a.bytes;
  lines = text_lines a.text;
  ends = a.ends;
}
