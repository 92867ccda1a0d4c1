use Rattle.std.proofs.Common.{◌≡◌, arith, refl, true}
use Rattle.stmt65.specs.Words.{part_of}
use Rattle.name65.specs.Compared.{is_of_operand, may_change}
use Rattle.name65.specs.Written.{scope_seen}
use Rattle.name65.proofs.ComparedLemmas.{part_comes}
use Rattle.name65.proofs.compared.after_come.Goals as goal

pub returns : goal.returns
returns c =
    let may : may_change (scope_seen c.args.plan.now) c.args.lines.cursor ≡ true = grind (arith, c.may_change.ensures, c.if-not-may_change.false) in
    let of : is_of_operand (part_of c.in-Some.new.part) ≡ true = grind (arith, c.is_of_operand.ensures, c.if-not-is_of_operand.false) in
    part_comes (scope_seen c.args.plan.now) c.args.lines _ c.in-Some.new (rw c.in-Some.is at c.in_ok-new.ensures) may of refl refl refl
