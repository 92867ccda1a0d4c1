-- The definitions that a text gives.
use Rattle.std.specs.Prelude.{ℕ, List}
use Rattle.stmt65.specs.Types.{Language}
use Rattle.stmt65.specs.Layout.{Layout}
use Rattle.stmt65.specs.Symbols.{Definition}
use Rattle.stmt65.specs.Meaning.{final, initial, readings}

-- the definitions of all lines of a text, in order
unfoldable pub definitions_of : Language → Layout → ℕ → List ℕ → List Definition
definitions_of language layout start text = (final (initial layout start) (readings language text)).above
