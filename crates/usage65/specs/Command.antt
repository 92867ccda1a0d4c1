-- The command of a program as `clap` sees it.
use Rattle.std.specs.Prelude.{List, [], ◌∷◌, Option, Some, None}
use Rattle.clap.specs.Words.{App, Rule, Text, new_rule, with_rule}
use Rattle.clap.specs.declared.builder.ArgAction.{ArgAction}
use Rattle.clap.specs.declared.builder.ArgAction.TheVariants.{SetTrue}
use Rattle.usage65.specs.Choices.{ChoiceView, ProgramView}
use Rattle.usage65.specs.Values.{bare}

-- an option without a value is a flag; any other takes one value, as `clap`'s arguments do
abbrev pub action_for : Option Text → Option ArgAction
action_for None = Some SetTrue
action_for (Some value) = None

-- an option as `clap`'s argument
abbrev pub rule_for : ChoiceView → Rule
rule_for c = record (new_rule c.id) { short = c.short; long = c.long; action = action_for c.value }

abbrev pub with_choices : App → List ChoiceView → App
with_choices a [] = a
with_choices a (c ∷ cs) = with_choices (with_rule a (rule_for c)) cs

-- the command: each option in its order, and a name that may be left out; each may be given once
unfoldable pub command_of : ProgramView → App
command_of p = with_rule (with_choices (bare p.name) p.choices) (new_rule p.input)
