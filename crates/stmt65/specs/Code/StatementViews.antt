-- What a value of the code's types is as a statement of the rules.
use Rattle.stmt65.specs.SourceLine.{is_absolute}
use Rattle.stmt65.specs.Views.{ExprView, OperandsView, RemarksView, StatementView, TargetView}
use Rattle.stmt65.specs.Views as view
use Rattle.stmt65.specs.declared.directive.Directive.TheVariants.{Word}
use Rattle.std.specs.Prelude.{Bool, false, true}
use Rattle.std.specs.Option.{option_copied, option_map}
use Rattle.stmt65.specs.Types.{Dbyt, Decimal, Dword, Expr, Hexadecimal, Offsets, Operands, Remarks, Target}
use Rattle.stmt65.specs.declared.statement.Expr.TheVariants as code_expr
use Rattle.stmt65.specs.declared.statement.Operands.TheVariants as code_operands
use Rattle.stmt65.specs.declared.statement.Statement.{Statement}
use Rattle.stmt65.specs.declared.statement.Statement.TheVariants as code_statement

abbrev pub expr_seen : Expr → ExprView
expr_seen (code_expr.Number n) = view.number n
expr_seen (code_expr.Name bs offset) = view.name bs.now offset

abbrev pub operands_seen : Operands → OperandsView
operands_seen code_operands.None = view.none
operands_seen (code_operands.One e) = view.one (expr_seen e)
operands_seen (code_operands.Two e f) = view.two (expr_seen e) (expr_seen f)

-- whether offsets are written in hex digits
abbrev pub in_hex : Offsets → Bool
in_hex Hexadecimal = true
in_hex Decimal = false

abbrev pub target_seen : Target → TargetView
target_seen t = record { name = t.name.now; offset = t.offset }

abbrev pub statement_seen : Statement → StatementView
statement_seen (code_statement.Instr op size operands) = view.instr op (is_absolute size) (operands_seen operands)
statement_seen (code_statement.Bytes bs) = view.bytes bs.now
statement_seen (code_statement.Text bs) = view.text bs.now
statement_seen (code_statement.Words bs) = view.numbers Word bs.now
statement_seen (code_statement.Dbyts bs) = view.numbers Dbyt bs.now
statement_seen (code_statement.Dwords bs) = view.numbers Dword bs.now
statement_seen (code_statement.Addr t) = view.addr (target_seen t)
statement_seen (code_statement.Rts t) = view.rts (option_map target_seen t)
statement_seen (code_statement.Label w) = view.label w.now
statement_seen (code_statement.Const w n) = view.assignment w.now n
statement_seen (code_statement.Forward w n) = view.forward w.now n
statement_seen (code_statement.Segment w) = view.segment w.now
statement_seen code_statement.Code = view.code
statement_seen (code_statement.SetCpu cpu) = view.set_cpu cpu
statement_seen code_statement.Blank = view.blank
statement_seen (code_statement.Remark bs) = view.remark bs.now

abbrev pub remarks_seen : Remarks → RemarksView
remarks_seen r = record { level = r.level; hexoffs = r.hexoffs; address = r.address; bytes = r.bytes.now; label = option_copied r.label }
