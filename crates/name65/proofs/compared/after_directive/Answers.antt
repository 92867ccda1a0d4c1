use Rattle.std.proofs.Common.{◌≡◌, arith, refl, rules, true}
use Rattle.name65.specs.Compared.{become_halves}
use Rattle.name65.specs.Written.{scope_seen}
use Rattle.name65.proofs.ComparedLemmas.{directive_changes}
use Rattle.name65.proofs.compared.after_directive.Goals as goal

pub returns : goal.returns
returns c =
    let blanks : c.args.old.blanks.now ≡ c.in-Some.new.blanks.now = search rules in
    let one : c.args.lines.cursor.stay ≡ 1 = search rules in
    let become : become_halves c.args.old.text.now c.in-Some.new.text.now ≡ true = grind (arith, c.become_halves.ensures, c.if-not-become_halves.false) in
    directive_changes (scope_seen c.args.plan.now) c.args.lines _ c.args.old c.in-Some.new c.requires (rw c.in-Some.is at c.in_ok-new.ensures) blanks one become c.in_ok-after_part.ensures refl refl
