use Rattle.std.proofs.Common.{◌&&◌, ◌≡◌, ◌∙◌, ap, false, inl, sym}
use Rattle.std.proofs.lemmas.Result.{err_from_is_err_and}
use Rattle.info65.specs.Words.{groups_of, is_semicolon, kind_seen, place_after, read, tokens_of}
use Rattle.std.proofs.lemmas.Bool.{and_left, and_right}
use Rattle.info65.proofs.ReaderLemmas.{between_end, between_fault, between_group, between_separator, fails_along, separated}
use Rattle.info65.proofs.syntax.parser.read_groups.Goals as goal
use Rattle.info65.proofs.syntax.parser.read_groups.Goals.{else-after_group-via-then-after_group+else-is_semicolon, else-after_group-via-else-after_group}
use Rattle.info65.proofs.Cases.{same_ok}

pub groups-init : goal.groups-init
unfolding groups_of
groups-init g c = rw c.new-lexer.ensures (ap (λ l. read c.args.options.now (place_after false) l (tokens_of 1 c.args.bytes.now)) (sym (same_ok c.in_ok-groups.ensures)))

pub returns-in_err-next : goal.returns-in_err-next
returns-in_err-next g c =
    let p = err_from_is_err_and c.from_residual-in_err-next.result c.from_residual-in_err-next.ensures.1 in
    rw (p.1, p.2) (inl (sym c.groups.invariant ∙ between_fault c.args.options.now c.groups.after_group c.groups.groups _ _ c.in_err-next.ensures.0))

pub returns-in-End : goal.returns-in-End
returns-in-End g c =
    let at = rw c.in-End.is at c.in_ok-next.ensures in
    sym c.groups.invariant ∙ between_end c.args.options.now c.groups.after_group c.groups.groups _ _ at.0

pub groups-preserved-then-is_semicolon : goal.groups-preserved-then-is_semicolon
groups-preserved-then-is_semicolon g c =
    let at = rw c.in-Token.is at c.in_ok-next.ensures in
    let mark = sym c.is_semicolon.ensures ∙ c.if-is_semicolon.true in
    sym (between_separator c.args.options.now c.groups.after_group c.groups.groups _ _ _ at c.if-after_group.true mark) ∙ c.groups.invariant

pub returns-in_err-spare-in-Token : goal.returns-in_err-spare-in-Token
returns-in_err-spare-in-Token g c =
    let at = rw c.in-Token.is at c.in_ok-next.ensures in
    let p = err_from_is_err_and c.from_residual-in_err-spare-in-Token.result c.from_residual-in_err-spare-in-Token.ensures.1 in
    let mark = is_semicolon (kind_seen c.in-Token.token.kind) in
    let other : (c.groups.after_group && mark) ≡ false = elim c.else-after_group.branch [ else-after_group-via-then-after_group+else-is_semicolon w ↦ and_right c.groups.after_group mark (sym w.is_semicolon.ensures ∙ w.if-is_semicolon.false) | else-after_group-via-else-after_group w ↦ and_left c.groups.after_group mark w.if-after_group.false ] in
    let here = sym c.groups.invariant ∙ between_group c.args.options.now c.groups.after_group c.groups.groups _ _ _ at other in
    rw (p.1, p.2) (fails_along here c.in_err-spare-in-Token.ensures.read)

pub groups-preserved : goal.groups-preserved
groups-preserved g c =
    let at = rw c.in-Token.is at c.in_ok-next.ensures in
    let mark = is_semicolon (kind_seen c.in-Token.token.kind) in
    let other : (c.groups.after_group && mark) ≡ false = elim c.else-after_group.branch [ else-after_group-via-then-after_group+else-is_semicolon w ↦ and_right c.groups.after_group mark (sym w.is_semicolon.ensures ∙ w.if-is_semicolon.false) | else-after_group-via-else-after_group w ↦ and_left c.groups.after_group mark w.if-after_group.false ] in
    sym (separated c.args.options.now _ _ _ c.takes_semicolon-after_group.result c.takes_semicolon-after_group.ensures) ∙ sym c.in_ok-spare-in-Token.ensures.read ∙ sym (between_group c.args.options.now c.groups.after_group c.groups.groups _ _ _ at other) ∙ c.groups.invariant
