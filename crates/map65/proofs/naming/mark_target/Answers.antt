use Rattle.std.proofs.Common.{◌≡◌, ◌∙◌, ap, refl, sym, subst, arith, get_or}
use Rattle.std.specs.Prelude.{IsSome}
use Rattle.map65.specs.Words.{item_len}
use Rattle.map65.proofs.NamingLemmas.{laid_known, laid_fits, laid_item, refers_none, refers_some}
use Rattle.map65.proofs.RunLemmas.{some_same}
use Rattle.map65.proofs.TargetLemmas.{short_at}
use Rattle.map65.proofs.naming.mark_target.Goals as goal

pub target_at-requires-clause-len : goal.target_at-requires-clause-len
target_at-requires-clause-len g c =
    laid_item c.args.mapped.now c.args.cells.now c.args.address (get_or c.args.cells.now c.from.result 0) c.len_in-len.result c.requires.laid (omega arith) (ap (λ k. get_or c.args.cells.now k 0) c.from.ensures) c.len_in-len.ensures.value

pub returns-then-len-lt2 : goal.returns-then-len-lt2
returns-then-len-lt2 g c =
    let m = c.args.mapped.now in
    let len : c.len_in-len.result ≡ item_len m c.args.address = laid_item m c.args.cells.now c.args.address (get_or c.args.cells.now c.from.result 0) c.len_in-len.result c.requires.laid (omega arith) (ap (λ k. get_or c.args.cells.now k 0) c.from.ensures) c.len_in-len.ensures.value in
    refers_none m c.args.address c.args.cells.now c.requires.laid.count (short_at m c.args.address (omega (arith, len, c.if-len-lt2.true)))

pub target_at-requires-clause-room : goal.target_at-requires-clause-room
target_at-requires-clause-room g c =
    laid_fits c.args.mapped.now c.args.address c.len_in-len.result c.requires.high (target_at-requires-clause-len g c)

pub unwrap-role-requires : goal.unwrap-role-requires
unwrap-role-requires g c =
    subst IsSome (sym (laid_known c.args.mapped.now c.args.cells.now c.args.address (get_or c.args.cells.now c.from.result 0) c.role_in.result c.requires.laid (omega arith) c.requires.low c.requires.high (ap (λ k. get_or c.args.cells.now k 0) c.from.ensures) c.role_in.ensures)) refl

pub target_at-requires-clause-role : goal.target_at-requires-clause-role
target_at-requires-clause-role g c =
    some_same _ _ (sym c.unwrap-role.ensures ∙ laid_known c.args.mapped.now c.args.cells.now c.args.address (get_or c.args.cells.now c.from.result 0) c.role_in.result c.requires.laid (omega arith) c.requires.low c.requires.high (ap (λ k. get_or c.args.cells.now k 0) c.from.ensures) c.role_in.ensures)

pub returns-in-Some : goal.returns-in-Some
returns-in-Some g c =
    refers_some c.args.mapped.now c.args.address c.in-Some.target c.entry_start_of-first.result c.args.cells.now c.mark.new.cells c.mark-in-Some.new.cells (sym c.target_at.ensures ∙ c.in-Some.is) (c.entry_start_of-first.ensures.value c.args.mapped.now c.requires.laid) c.mark.ensures c.mark-in-Some.ensures

pub returns-in_default : goal.returns-in_default
returns-in_default g c =
    refers_none c.args.mapped.now c.args.address c.args.cells.now c.requires.laid.count (sym c.target_at.ensures ∙ c.in_default.is)
