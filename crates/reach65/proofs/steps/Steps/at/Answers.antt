use Rattle.std.proofs.Common.{◌∙◌, ap, arith}
use Rattle.reach65.proofs.StepsLemmas.{step_before}
use Rattle.reach65.proofs.steps.Steps.at.Goals as goal

pub returns-then-address-start : goal.returns-then-address-start
returns-then-address-start c =
    let start = c.start-start.ensures ∙ ap (λ i. i.start) c.image.ensures in
    step_before c.args.self.now c.args.address (omega (arith, start))
