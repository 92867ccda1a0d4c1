use Rattle.std.proofs.Common.{arith, ◌∙◌, inl, map, refl, sym}
use Rattle.std.proofs.lemmas.Result.{err_from_is_err_and}
use Rattle.info65.specs.Words.{assignment_seen, finish, inside}
use Rattle.info65.proofs.ReaderLemmas.{attribute_refused, close_grows, fails_along, grows_along, missing, read_next}
use Rattle.info65.proofs.syntax.parser.attributes.Goals as goal

pub returns-in_err-name-clause-read : goal.returns-in_err-name-clause-read
unfolding finish
returns-in_err-name-clause-read g c =
    let p = err_from_is_err_and c.from_residual.result c.from_residual.ensures.1 in
    rw (p.1, p.2) (inl (sym c.attributes.invariant.same ∙ missing c.args.options.now (inside c.args.kind (map assignment_seen c.attributes.given.items)) c.attributes.groups _ _ refl c.in_err-name.ensures.err))

pub returns-in-CloseBrace-clause-read : goal.returns-in-CloseBrace-clause-read
returns-in-CloseBrace-clause-read g c =
    let o = c.args.options.now in
    let k = c.args.kind in
    let given = map assignment_seen c.attributes.given.items in
    let before = c.attributes.groups in
    grows_along c.close.result _ (sym c.attributes.invariant.same ∙ read_next o (inside k given) before _ _ _ c.in_ok-name.ensures.ok) (close_grows o k given before _ _ _ _ c.close.result refl c.in-CloseBrace.is c.close.ensures)

pub returns-in_err-attribute-in-Word-clause-read : goal.returns-in_err-attribute-in-Word-clause-read
returns-in_err-attribute-in-Word-clause-read g c =
    let p = err_from_is_err_and c.from_residual-in_err-attribute-in-Word.result c.from_residual-in_err-attribute-in-Word.ensures.1 in
    let place = inside c.args.kind (map assignment_seen c.attributes.given.items) in
    rw (p.1, p.2) (fails_along (sym c.attributes.invariant.same ∙ read_next c.args.options.now place c.attributes.groups _ _ _ c.in_ok-name.ensures.ok) c.in_err-attribute-in-Word.ensures.read)

pub attributes-preserved : goal.attributes-preserved
attributes-preserved g c =
    let place = inside c.args.kind (map assignment_seen c.attributes.given.items) in
    record {
      same = sym c.in_ok-attribute-in-Word.ensures.read ∙ sym (read_next c.args.options.now place c.attributes.groups _ _ _ c.in_ok-name.ensures.ok) ∙ c.attributes.invariant.same;
      shorter = omega (arith, c.in_ok-attribute-in-Word.ensures.shorter, c.in_ok-name.ensures.shorter, c.attributes.invariant.shorter);
    }

pub returns-in_default : goal.returns-in_default
returns-in_default g c =
    let o = c.args.options.now in
    let k = c.args.kind in
    let given = map assignment_seen c.attributes.given.items in
    let before = c.attributes.groups in
    record {
      read = inl (rw c.expected.ensures (sym c.attributes.invariant.same ∙ read_next o (inside k given) before _ _ _ c.in_ok-name.ensures.ok ∙ attribute_refused o k given before _ _ _ refl c.in_default.not-Word c.in_default.not-CloseBrace));
      shorter = omega (arith, c.in_ok-name.ensures.shorter, c.attributes.invariant.shorter);
    }
