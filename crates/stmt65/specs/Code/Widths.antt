-- The widths of the numbers in a statement, as its types have them.
use Rattle.std.specs.Prelude.{◌≡◌, ℕ, ◌<◌, true, List, Some, nat_lt}
use Rattle.std.specs.List.{list_all}
use Rattle.stmt65.specs.Views.{ExprView, OperandsView, StatementView}
use Rattle.stmt65.specs.Views as view

-- numbers and offsets have 16 bits
abbrev pub IsWordWide : ExprView → Type 0
IsWordWide (view.number n) = n < 65536
IsWordWide (view.name name offset) = offset < 65536

abbrev pub AreWordWide : OperandsView → Type 0
AreWordWide view.none = Unit {0}
AreWordWide (view.one e) = IsWordWide e
AreWordWide (view.two e f) = IsWordWide e × IsWordWide f

-- bytes have 8 bits
abbrev pub AreBytes : List ℕ → Type 0
AreBytes bytes = list_all (λ b. nat_lt b 256) bytes ≡ true

-- The numbers of the statement are within their widths.
abbrev pub IsInWidth : StatementView → Type 0
IsInWidth (view.instr op absolute operands) = AreWordWide operands
IsInWidth (view.bytes bs) = AreBytes bs
IsInWidth (view.text bs) = AreBytes bs
IsInWidth (view.numbers d bs) = AreBytes bs
IsInWidth (view.addr t) = t.offset < 65536
IsInWidth (view.rts (Some t)) = t.offset < 65536
IsInWidth (view.assignment name n) = n < 65536
IsInWidth (view.forward name n) = n < 65536
IsInWidth _ = Unit {0}
