-- A statement as the rules speak of it: its texts are lists of bytes.
use Rattle.std.specs.Prelude.{Bool, List, Option, ℕ}
use Rattle.stmt65.specs.Types.{Cpu, Directive, Op}

-- a number; or a name, and what is added to its value
pub data ExprView : Type 0 where
  number : ℕ → ExprView
  name : List ℕ → ℕ → ExprView

pub data OperandsView : Type 0 where
  none : OperandsView
  one : ExprView → OperandsView
  two : ExprView → ExprView → OperandsView

-- a name, and what is added to its value
pub record TargetView : Type 0 where
  pub name : List ℕ
  pub offset : ℕ

-- the Bool of an instruction says whether `a:` stands before its operand
pub data StatementView : Type 0 where
  instr : Op → Bool → OperandsView → StatementView
  bytes : List ℕ → StatementView
  text : List ℕ → StatementView
  numbers : Directive → List ℕ → StatementView
  addr : TargetView → StatementView
  rts : Option TargetView → StatementView
  label : List ℕ → StatementView
  assignment : List ℕ → ℕ → StatementView
  forward : List ℕ → ℕ → StatementView
  segment : List ℕ → StatementView
  code : StatementView
  set_cpu : Cpu → StatementView
  blank : StatementView
  remark : List ℕ → StatementView

-- what a line holds besides its statement
pub record RemarksView : Type 0 where
  pub level : ℕ
  pub hexoffs : Bool
  pub address : ℕ
  pub bytes : List ℕ
  pub label : Option (List ℕ)
