-- An option of a command line, and the whole of it.
use Rattle.std.specs.Prelude.{ℕ, List, Option}
use Rattle.clap.specs.Words.{Text}

-- an option: its id, its letter, its long name, what its value is called, and what it
-- is for; one without a value is a flag
pub record ChoiceView : Type 0 where
  pub id : Text
  pub short : Option ℕ
  pub long : Option Text
  pub value : Option Text
  pub purpose : Text

-- a program's command line: its name, what its help text says before the options, the options in the order of that
-- text, and the id of a name without an option, which may be left out
pub record ProgramView : Type 0 where
  pub name : Text
  pub usage : Text
  pub choices : List ChoiceView
  pub input : Text
