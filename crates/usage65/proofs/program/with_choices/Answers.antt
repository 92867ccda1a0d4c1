use Rattle.std.proofs.Common.{◌≡◌, ◌∙◌, ◌+◌, ◌<◌, ℕ, List, add-one, ap, drop, drop-cons, get_or, length, map}
use Rattle.std.specs.Borrow.{Bor}
use Rattle.clap.specs.Words.{App, Text, app_of, with_rule}
use Rattle.usage65.specs.Words.{choice_of, rule_for, with_choices}
use Rattle.usage65.specs.declared.choice.ChoiceOf.{ChoiceOf}
use Rattle.usage65.proofs.program.with_choices.Goals as goal

-- one more option is added
one_more : (old new all : App) (cs : List (ChoiceOf (Bor Text))) (k : ℕ) (c : ChoiceOf (Bor Text)) → k < length cs → new ≡ with_rule old (rule_for (choice_of (get_or cs k c))) → with_choices old (map choice_of (drop k cs)) ≡ all → with_choices new (map choice_of (drop (k + 1) cs)) ≡ all
one_more old new all cs k c low is before = rw (is, add-one k) (rw (drop-cons cs k c low) at before)

pub choices-preserved : goal.choices-preserved
choices-preserved c = one_more _ _ _ _ _ _ c.choices-test.true (c.in_ok-command.ensures.shape c.arg.ensures.here ∙ ap (with_rule (app_of c.choices.command)) c.arg.ensures.rule) c.choices.invariant
