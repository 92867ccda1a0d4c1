use Rattle.std.proofs.Common.{◌≡◌, ◌∙◌, ◌+◌, ℕ, ap, arith, sym, true, false, ⊎_elim}
use Rattle.std.proofs.lemmas.Bool.{both_ways, cases_eq}
use Rattle.map65.specs.Words.{is_joined}
use Rattle.map65.proofs.ItemLaws.{size_cut, size_whole}
use Rattle.map65.proofs.ItemLemmas.{joined_high}
use Rattle.map65.proofs.MarkingLemmas.{joined_answer}
use Rattle.map65.proofs.marking.size_at.Goals as goal

pub loop-i-init : goal.loop-i-init
loop-i-init g c = record { inside = omega (arith, c.requires.high); piece = λ x low high. absurd (omega (arith, low, high)) }

pub returns-then-not-is_joined_in-clause-value : goal.returns-then-not-is_joined_in-clause-value
returns-then-not-is_joined_in-clause-value g c =
    let m = c.args.mapped.now in
    let at : ℕ = c.args.address + c.loop-i.i + 1 in
    let apart : is_joined m at ≡ false = joined_answer m c.args.address at _ c.args.cells.now c.is_joined_in.result false (omega (arith, c.from-first.ensures, c.from.ensures)) c.requires.marked c.requires.own c.requires.placed.room c.requires.low (omega arith) (omega (arith, c.loop-i.invariant.inside)) c.is_joined_in.ensures c.if-not-is_joined_in.true in
    sym (size_cut m c.args.address (λ piece. both_ways (is_joined m at) apart (piece at (omega arith) (omega (arith, c.loop-i-test.true, c.loop-i.auto.i-end, c.full_len_at-full_len.ensures.value)))))

pub loop-i-preserved : goal.loop-i-preserved
loop-i-preserved g c =
    let m = c.args.mapped.now in
    let at : ℕ = c.args.address + c.loop-i.i + 1 in
    let joined : is_joined m at ≡ true = joined_answer m c.args.address at _ c.args.cells.now c.is_joined_in.result true (omega (arith, c.from-first.ensures, c.from.ensures)) c.requires.marked c.requires.own c.requires.placed.room c.requires.low (omega arith) (omega (arith, c.loop-i.invariant.inside)) c.is_joined_in.ensures c.if-not-is_joined_in.false in
    record {
      inside = omega (arith, joined_high m at joined);
      piece = λ x low high. ⊎_elim (λ same. ap (is_joined m) same ∙ joined) (λ other. c.loop-i.invariant.piece x low (omega (arith, high, other))) (cases_eq x at);
    }

pub returns-clause-value : goal.returns-clause-value
returns-clause-value g c =
    c.full_len_at-full_len.ensures.value ∙ sym (size_whole c.args.mapped.now c.args.address (λ x low high. c.loop-i.invariant.piece x low (omega (arith, high, c.loop-i-test.false, c.loop-i.auto.i-end, c.full_len_at-full_len.ensures.value))))
