use Rattle.std.proofs.Common.{◌≡◌, drop, map}
use Rattle.clap.specs.Words.{app_of}
use Rattle.usage65.specs.Words.{choice_of, with_choices}
use Rattle.usage65.proofs.program.with_choices.Given as goal

-- the command so far, and then the options that are left
abbrev pub invariant-choices : goal.invariant-choices
invariant-choices l =
    with_choices (app_of l.command) (map choice_of (drop l.choice-index l.choices)) ≡ with_choices (app_of l.initial.command) (map choice_of l.choices)
