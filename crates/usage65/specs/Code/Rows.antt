-- The table of the options as the rules see it, and an option as `clap`'s argument.
use Rattle.std.specs.Prelude.{◌≡◌, false, map, option_map}
use Rattle.std.specs.Borrow.{Bor}
use Rattle.clap.specs.Words.{Rule, Text, rule_of}
use Rattle.clap.specs.declared.builder.Arg.{Arg}
use Rattle.usage65.specs.Choices.{ChoiceView, ProgramView}
use Rattle.usage65.specs.declared.choice.ChoiceOf.{ChoiceOf}
use Rattle.usage65.specs.declared.program.Program.{Program}

-- an option whose texts are read in this way
abbrev choice_by : {T : Type 0} → (T → Text) → ChoiceOf T → ChoiceView
choice_by text c = record { id = text c.id; short = c.short; long = option_map text c.long; value = option_map text c.value; purpose = text c.purpose }

abbrev pub choice_of : ChoiceOf (Bor Text) → ChoiceView
choice_of c = choice_by (λ s. s.now) c

-- an option of a table in the code
abbrev pub row_of : ChoiceOf record { now : Text } → ChoiceView
row_of c = choice_by (λ s. s.now) c

abbrev pub program_of : Program → ProgramView
program_of p = record { name = p.name.now; usage = p.usage.now; choices = map choice_of p.choices.now; input = p.input.now }

-- an argument with this rule, of its command alone
pub record HasRule (a : Arg) (r : Rule) : Type 0 where
  pub rule : rule_of a ≡ r
  pub here : a.global ≡ false
