use Rattle.std.proofs.Common.{◌∙◌, ap, subst, sym}
use Rattle.std.specs.Prelude.{List, Ok}
use Rattle.info65.specs.Words.{AreGiven, NameView, by_address, with_names}
use Rattle.info65.proofs.Cases.{same_ok}
use Rattle.info65.proofs.NamesLemmas.{given_names, names_sorted}
use Rattle.info65.proofs.includes.included.Inclusion.of.Goals as goal

pub invariant_of-result : goal.invariant_of-result
invariant_of-result g c = subst AreGiven (same_ok c.in_ok-names.ensures.names) (given_names c.args.info.now.names c.in_ok-names.ensures.sound)

pub returns : goal.returns
returns g c = ap (λ (l : List NameView). Ok (with_names c.args.info.now l)) (sym (ap by_address (sym (same_ok c.in_ok-names.ensures.names)) ∙ names_sorted c.args.info.now.names c.in_ok-names.ensures.sound))
