-- The statement of a group may stand after a label.
use Rattle.std.proofs.Common.{◌≡◌, ℕ, List, Option, Some, None, refl}
use Rattle.isa65.specs.Words.{Table}
use Rattle.da65.specs.Words.{IsGroupOf, AddressNames, RangeType, statement_for, statement_in}
use Rattle.stmt65.specs.Views as view
use Rattle.stmt65.specs.Words.{Statement, StatementView, TakesLabel, operation_in, source_line, with_label}
use Rattle.da65.proofs.Statements.EachStatement.{OfCode, of_group, of_item}

-- what is read of it is an operation, with the label before it if there is one
pub label_read : (s : StatementView) (label : Option (List ℕ)) → TakesLabel s → with_label label (source_line s) ≡ Statement label (operation_in (source_line s))
label_read (view.label text) label h = absurd cc
label_read (view.assignment text n) label h = absurd cc
label_read (view.forward text n) label h = absurd cc
label_read (view.segment text) label h = absurd cc
label_read view.code label h = absurd cc
label_read (view.set_cpu cpu) label h = absurd cc
label_read view.blank label h = absurd cc
label_read (view.remark text) label h = absurd cc
label_read _ None h = refl
label_read _ (Some name) h = refl

code_takes : (m : AddressNames) (t : Table) (a : ℕ) (bytes : List ℕ) → OfCode m t a bytes (λ s bs. TakesLabel s)
code_takes m t a bytes = record { front = λ n low high long. refl; instruction = λ op os e f. refl }

pub item_takes : (m : AddressNames) (t : Table) (a : ℕ) (bytes : List ℕ) → TakesLabel (statement_in m t a bytes)
item_takes m t a bytes = of_item m t a bytes (λ s bs. TakesLabel s) (code_takes m t a bytes)

pub group_takes : (m : AddressNames) (t : Table) (r : RangeType) (a : ℕ) (bytes : List ℕ) → IsGroupOf t r bytes → TakesLabel (statement_for m t r a bytes)
group_takes m t r a bytes of =
    of_group m t a bytes (λ s bs. TakesLabel s) (code_takes m t a bytes)
    (record { plain = λ _. refl; text = λ _. refl; numbers = λ d is. refl; address = λ b two e. refl; nowhere = λ two e. refl; return = λ b two other e. refl }) r of
