use Rattle.std.proofs.Common.{refl, List, ◌∷◌, ◌++◌, []}
use Rattle.std.specs.Prelude.{Result, Ok, Err}
use Rattle.std.proofs.lemmas.Result.{err_from_is_err_and}
use Rattle.info65.specs.Words.{AssignmentView, Attribute, GroupKind, GroupView, InfoFault, Leads, OptionsView, Sees, Stream, TokenView, Value, assigned, finish, one, read, read_token, value_seen, valued}
use Rattle.info65.specs.Reader.{value_at}
use Rattle.info65.proofs.ReaderLemmas.{missing, read_next, value_refused, value_taken}
use Rattle.info65.proofs.syntax.parser.value.Goals as goal

value_read : (o : OptionsView) (k : GroupKind) (given : List AssignmentView) (a : Attribute) (b : List GroupView) (t : TokenView) (rest : Stream) (r : Result Value InfoFault) → Sees value_seen r (value_at o b a t) → Leads (read_token o (valued k given a) b t rest) r (λ v. read o (assigned k (given ++ one a (value_seen v) ∷ [])) b rest)
value_read o k given a b t rest (Ok v) is = value_taken o k given a b t rest (value_seen v) is
value_read o k given a b t rest (Err e) is = value_refused o k given a b t rest e is

pub returns-in_err-token-clause-read : goal.returns-in_err-token-clause-read
unfolding finish
returns-in_err-token-clause-read g c = λ k given.
    let p = err_from_is_err_and c.from_residual.result c.from_residual.ensures.1 in
    rw (p.1, p.2) (missing c.args.options.now (valued k given c.args.attribute) c.args.before.now _ _ refl c.in_err-token.ensures.err)

pub returns-clause-read : goal.returns-clause-read
returns-clause-read g c = λ k given. rw (read_next c.args.options.now (valued k given c.args.attribute) c.args.before.now _ _ _ c.in_ok-token.ensures.ok) (value_read c.args.options.now k given c.args.attribute c.args.before.now _ _ c.value_at.result c.value_at.ensures)
