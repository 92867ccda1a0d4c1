use Rattle.std.proofs.Common.{◌≡◌, ◌∙◌, ap, arith, false, inl, length, nat_lt, option_map, refl, sym}
use Rattle.std.specs.Prelude.{Err, List, Ok, Option}
use Rattle.std.proofs.lemmas.Bool.Decides.{nat_tests}
use Rattle.std.proofs.lemmas.List.{append-nil}
use Rattle.std.proofs.lemmas.Result.{err_from_is_err_and}
use Rattle.text65.specs.Lines.{text_lines}
use Rattle.info65.specs.Words.{Given, NameView, given_seen, with_added}
use Rattle.info65.proofs.IncludeFileLemmas.{all_given, line_joins}
use Rattle.info65.proofs.IncludedLemmas.{accepted, last_line, next_lines, refused}
use Rattle.info65.proofs.includes.included.with_file.Goals as goal

pub lines-init : goal.lines-init
lines-init g c = record { read = refl; shorter = omega arith }

pub overflow_add-number : goal.overflow_add-number
overflow_add-number g c = omega (arith, c.lines.invariant.shorter, c.if-bytes-gt-MOST_BYTES.false)

pub returns : goal.returns
returns g c =
    let small : nat_lt 1_048_576 (length c.args.bytes.now) ≡ false = grind (arith, nat_tests, c.if-bytes-gt-MOST_BYTES.false) in
    let all = c.lines.invariant.read ∙ last_line c.args.include.now c.lines.number c.lines.names c.lines.rest.now c.in_default.ensures in
    (accepted c.args.include.now c.args.index c.lines.names c.args.bytes.now small all, λ given. all_given c.args.include.now 1 c.args.index (text_lines c.args.bytes.now) c.lines.names given all)

pub returns-in_err-added : goal.returns-in_err-added
returns-in_err-added g c =
    let p = err_from_is_err_and c.from_residual.result c.from_residual.ensures.1 in
    let small : nat_lt 1_048_576 (length c.args.bytes.now) ≡ false = grind (arith, nat_tests, c.if-bytes-gt-MOST_BYTES.false) in
    rw (p.1, p.2) (inl (refused c.args.include.now c.args.index c.args.bytes.now _ small
    (c.lines.invariant.read ∙ next_lines c.args.include.now c.lines.number c.lines.names c.lines.rest.now c.in-Some.line.now (text_lines c.in-Some.after.now) (Err _) c.in-Some.ensures.0 (ap (with_added c.lines.names) c.in_err-added.ensures))))

pub lines-preserved-in_default-added : goal.lines-preserved-in_default-added
lines-preserved-in_default-added g c =
    let none = ap (with_added c.lines.names) (c.in_ok-added.ensures ∙ ap (λ (o : Option Given). Ok (option_map given_seen o)) c.in_default-added.is) ∙ ap (λ (l : List NameView). Ok l) (append-nil c.lines.names) in
    record {
      read = c.lines.invariant.read ∙ next_lines c.args.include.now c.lines.number c.lines.names c.lines.rest.now c.in-Some.line.now (text_lines c.in-Some.after.now) (Ok c.lines.names) c.in-Some.ensures.0 none;
      shorter = omega (arith, c.lines.invariant.shorter, c.in-Some.ensures.1);
    }

pub add-requires : goal.add-requires
add-requires g c =
    (line_joins c.args.include.now c.lines.number c.lines.names c.in-Some.line.now (given_seen c.in-Some-added.name) (c.in_ok-added.ensures ∙ ap (λ (o : Option Given). Ok (option_map given_seen o)) c.in-Some-added.is)).fine

pub lines-preserved : goal.lines-preserved
lines-preserved g c =
    let some = ap (with_added c.lines.names) (c.in_ok-added.ensures ∙ ap (λ (o : Option Given). Ok (option_map given_seen o)) c.in-Some-added.is) ∙ ap (λ (l : List NameView). Ok l) (sym c.in_ok-add.ensures.done) in
    record {
      read = c.lines.invariant.read ∙ next_lines c.args.include.now c.lines.number c.lines.names c.lines.rest.now c.in-Some.line.now (text_lines c.in-Some.after.now) (Ok c.add.new.self) c.in-Some.ensures.0 some;
      shorter = omega (arith, c.lines.invariant.shorter, c.in-Some.ensures.1);
    }
