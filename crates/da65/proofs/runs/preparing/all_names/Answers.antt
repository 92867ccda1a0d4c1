use Rattle.std.proofs.Common.{◌∙◌, ◌<◌, List, ap, arith, length, subst, sym, ℕ, []}
use Rattle.std.proofs.lemmas.Result.{err_from_is_err_and}
use Rattle.std.specs.Prelude.{Ok, Result}
use Rattle.info65.specs.Words.{AreNames, InfoView, NameView, with_names}
use Rattle.da65.specs.Words.{Stops, files_seen}
use Rattle.da65.proofs.Outcomes.IncludeFacts.{file_rest, long_as, ok_same, same_files}
use Rattle.da65.proofs.Outcomes.IncludeLemmas.{all_included, include_at, included_on, is_at, stops_at}
use Rattle.da65.proofs.runs.preparing.all_names.Goals as goal

pub with_include-requires : goal.with_include-requires
with_include-requires g c = long_as c.loop-index.included c.args.info.now _ c.loop-index.index c.loop-index.invariant.names c.includes-index-end.ensures.includes c.loop-index-test.true

pub returns-in_err-included : goal.returns-in_err-included
returns-in_err-included g c =
    let i = c.loop-index.included in
    let k = c.loop-index.index in
    let h : k < length i.includes = long_as i c.args.info.now _ k c.loop-index.invariant.names c.includes-index-end.ensures.includes c.loop-index-test.true in
    let is = c.in_err-included.ensures (include_at i k) (is_at i k h) in
    let p = err_from_is_err_and c.from_residual.result c.from_residual.ensures.1 in
    rw (p.1, p.2) (subst (λ (r : Result InfoView (List ℕ)). Stops c.in_err-included.field-0.0 r) c.loop-index.invariant.rest (stops_at c.in_err-included.field-0.0 (files_seen c.args.files.now) k i h is))

pub loop-index-preserved : goal.loop-index-preserved
loop-index-preserved g c =
    let i = c.loop-index.included in
    let k = c.loop-index.index in
    let h : k < length i.includes = long_as i c.args.info.now _ k c.loop-index.invariant.names c.includes-index-end.ensures.includes c.loop-index-test.true in
    let is = c.in_ok-included.ensures (include_at i k) (is_at i k h) in
    let rest = file_rest (files_seen c.args.files.now) k (include_at i k) i c.in_ok-included.included is in
    record {
      names = λ names. rest names ∙ c.loop-index.invariant.names names;
      rest = included_on (files_seen c.args.files.now) k i c.in_ok-included.included h (same_files i c.in_ok-included.included rest) is ∙ c.loop-index.invariant.rest;
    }

pub returns-in-Ok-names : goal.returns-in-Ok-names
returns-in-Ok-names g c =
    let i = c.loop-index.included in
    let same = ok_same c.in-Ok-names.ensures.names in
    let files = ap (λ (x : InfoView). length x.includes) (c.loop-index.invariant.names []) in (
      sym c.loop-index.invariant.rest
          ∙ all_included (files_seen c.args.files.now) c.loop-index.index i (omega (arith, c.loop-index-test.false, files, ap (λ (xs : List _). length xs) c.includes-index-end.ensures.includes))
          ∙ ap (λ (x : InfoView). Ok x) (ap (λ (l : List NameView). with_names i l) same ∙ c.loop-index.invariant.names c.in-Ok-names.names),
      subst AreNames same c.in-Ok-names.ensures.sound,
    )
