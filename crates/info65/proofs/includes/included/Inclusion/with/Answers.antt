use Rattle.std.proofs.Common.{◌∙◌, subst, sym}
use Rattle.std.proofs.lemmas.Result.{err_from_is_err_and}
use Rattle.info65.specs.Words.{Fails}
use Rattle.info65.proofs.IncludedLemmas.{file_at, file_sorted, included_fails, included_fault, included_names, included_same}
use Rattle.info65.proofs.includes.included.Inclusion.with.Goals as goal

pub returns-in_err-names : goal.returns-in_err-names
returns-in_err-names g c =
    let p = err_from_is_err_and c.from_residual.result c.from_residual.ensures.1 in
    let file = c.index-includes-index.result in
    let is = file_at _ _ _ c.args.index file c.self.view_is c.requires c.index-includes-index.is c.includes.ensures.includes in
    rw (p.1, p.2) (included_fails _ _ c.args.index c.args.bytes.now _ c.self.view_is (included_fault _ c.args.index file c.args.bytes.now _ is
    (subst (Fails _) (sym (file_sorted file c.self.inside.names c.args.bytes.now c.self.invariant)) c.in_err-names.ensures)))

pub invariant_of-result : goal.invariant_of-result
invariant_of-result g c = c.in_ok-names.ensures.1 c.self.invariant

pub returns : goal.returns
returns g c =
    let file = c.index-includes-index.result in
    let is = file_at _ _ _ c.args.index file c.self.view_is c.requires c.index-includes-index.is c.includes.ensures.includes in
    included_same _ _ c.args.index c.args.bytes.now _ c.self.view_is (included_names _ c.args.index file c.args.bytes.now _ is
    (file_sorted file c.self.inside.names c.args.bytes.now c.self.invariant ∙ c.in_ok-names.ensures.0))
