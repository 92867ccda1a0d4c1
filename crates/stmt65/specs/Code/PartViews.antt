-- What a part of the code stands for.
use Rattle.stmt65.specs.declared.reading.lexer.Part.{Part as CodePart}
use Rattle.stmt65.specs.declared.reading.lexer.Part.TheVariants as code
use Rattle.std.specs.Prelude.{◌∷◌, List, None, Option, Some, [], drop, slice_index, ℕ}
use Rattle.stmt65.specs.Types.{Language}
use Rattle.stmt65.specs.Lexing.{parts}
use Rattle.stmt65.specs.Parts.{Part, Word, Number, Text, Define, Mark}

abbrev pub part_of : CodePart → Part
part_of (code.Word w) = Word w.now
part_of (code.Number t) = Number t.now
part_of (code.Text t) = Text t.now
part_of code.Define = Define
part_of (code.Mark b) = Mark b

-- a part that was cut, if there was one, and those of the bytes after it
abbrev pub parts_from : Language → Option CodePart → List ℕ → List Part
parts_from language None rest = []
parts_from language (Some part) rest = part_of part ∷ parts language rest

-- what is cut from bytes, by the first of them and those after it
abbrev pub cut_by : {X : Type 0} → (ℕ → List ℕ → X) → List ℕ → X
cut_by cut bytes = cut (slice_index bytes 0) (drop 1 bytes)
