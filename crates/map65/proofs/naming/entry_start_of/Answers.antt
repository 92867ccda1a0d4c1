use Rattle.std.proofs.Common.{◌≡◌, ◌∙◌, ap, arith, false, get_or, sym, true}
use Rattle.map65.specs.Words.{is_wide_cell, item_len, len_in_cell}
use Rattle.map65.proofs.NamingLemmas.{entry_start_before, entry_start_found, entry_start_here, entry_start_low, laid_len}
use Rattle.map65.proofs.naming.entry_start_of.Goals as goal

pub returns-then-not-is_wide_cell-clause-value : goal.returns-then-not-is_wide_cell-clause-value
returns-then-not-is_wide_cell-clause-value c = λ m laid.
    let narrow : is_wide_cell (get_or c.args.cells.now c.args.address 0) ≡ false = sym (ap (λ k. is_wide_cell (get_or c.args.cells.now k 0)) c.from.ensures) ∙ sym c.is_wide_cell.ensures ∙ c.if-not-is_wide_cell.true in
    sym (entry_start_here m c.args.cells.now c.args.address laid (omega arith) narrow)

pub back-init : goal.back-init
back-init c = record { below = omega arith; from = λ m laid. entry_start_low m c.args.address }

pub back-preserved : goal.back-preserved
back-preserved c = record {
  below = omega (arith, c.back.invariant.below);
  from = λ m laid.
      let wide : is_wide_cell (get_or c.args.cells.now c.args.address 0) ≡ true = sym (ap (λ k. is_wide_cell (get_or c.args.cells.now k 0)) c.from.ensures) ∙ sym c.is_wide_cell.ensures ∙ c.if-not-is_wide_cell.false in
      let none : item_len m c.back.at ≡ 0 = sym (laid_len m c.args.cells.now c.back.at laid (omega (arith, c.back.invariant.below))) ∙ sym (ap (λ k. len_in_cell (get_or c.args.cells.now k 0)) c.from-in-back.ensures) ∙ sym c.len_in.ensures.value ∙ c.if-len_in-eq0.true in
      omega (arith, entry_start_before m c.args.cells.now c.args.address c.back.at laid (omega arith) wide (c.back.invariant.from m laid) c.back.invariant.below none);
}

pub returns-else-len_in-eq0-clause-value : goal.returns-else-len_in-eq0-clause-value
returns-else-len_in-eq0-clause-value c = λ m laid.
    let wide : is_wide_cell (get_or c.args.cells.now c.args.address 0) ≡ true = sym (ap (λ k. is_wide_cell (get_or c.args.cells.now k 0)) c.from.ensures) ∙ sym c.is_wide_cell.ensures ∙ c.if-not-is_wide_cell.false in
    let len : c.len_in.result ≡ item_len m c.back.at = c.len_in.ensures.value ∙ ap (λ k. len_in_cell (get_or c.args.cells.now k 0)) c.from-in-back.ensures ∙ laid_len m c.args.cells.now c.back.at laid (omega (arith, c.back.invariant.below)) in
    entry_start_found m c.args.cells.now c.args.address c.back.at laid (omega arith) wide (c.back.invariant.from m laid) c.back.invariant.below (omega (arith, len, c.if-len_in-eq0.false))

pub returns-after-back-clause-value : goal.returns-after-back-clause-value
returns-after-back-clause-value c = λ m laid. omega (arith, c.back-test.false, c.back.invariant.from m laid)
