use Rattle.std.proofs.Common.{false, sym, true, ◌∙◌, ◌≡◌}
use Rattle.stmt65.specs.Words.{Settles, state_in}
use Rattle.std.proofs.lemmas.Result.{on_ok_weaker}
use Rattle.stmt65.proofs.PassLaws.{left_takes}
use Rattle.stmt65.proofs.assembling.assembler.pass_source.Goals.{in-Faulty, in-Waiting}
use Rattle.stmt65.proofs.assembling.assembler.pass_source.Goals as goal

pub returns-in-Settled : goal.returns-in-Settled
unfolding Settles
returns-in-Settled g c = record { state = c.in_ok-pass_over.ensures.state; work = rw c.in-Settled.is at c.in_ok-pass_over.ensures.work _ _ }

pub keep-requires : goal.keep-requires
unfolding Settles
keep-requires g c = elim c.match-branch-2.branch [
  | in-Waiting w ↦ (rw w.in-Waiting.is at c.in_ok-pass_over.ensures.work).over
  | in-Faulty w ↦ (rw w.in-Faulty.is at c.in_ok-pass_over.ensures.work).0.over
]

pub returns : goal.returns
unfolding Settles
returns g c =
    on_ok_weaker c.keep.result (λ keeps. elim c.match-branch-2.branch [
      | in-Waiting w ↦ record {
        state = c.in_ok-pass_over.ensures.state;
        work = left_takes _ _ _ _ _ _ _ (rw w.in-Waiting.is at c.in_ok-pass_over.ensures.work) (keeps (state_in c.args.pass.now) (record { at = c.requires.at; cpu = c.requires.cpu; above = c.requires.above }) (λ faulty. let e : false ≡ true = sym w.is_faulty-is ∙ faulty in absurd cc));
      }
      | in-Faulty w ↦
          let work = rw w.in-Faulty.is at c.in_ok-pass_over.ensures.work in
          record {
            state = c.in_ok-pass_over.ensures.state;
            work = left_takes _ _ _ _ _ _ _ work.0 (keeps (state_in c.args.pass.now) (record { at = c.requires.at; cpu = c.requires.cpu; above = c.requires.above }) (λ _. work.1));
          }
    ]) c.keep.ensures
