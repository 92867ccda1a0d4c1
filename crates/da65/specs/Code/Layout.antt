-- The limits of what the options say of a listing's layout.
use Rattle.std.specs.Prelude.{◌≤◌, IfSome}
use Rattle.info65.specs.Words.{IsColumn}
use Rattle.da65.specs.declared.command_line.usage.Layout.{Layout}

-- each number keeps the limits of its option
pub record IsLayout (l : Layout) : Type 0 where
  pub comments : IfSome l.comments (λ n. n ≤ 4)
  pub mnemonic_column : IfSome l.mnemonic_column IsColumn
  pub argument_column : IfSome l.argument_column IsColumn
  pub comment_column : IfSome l.comment_column IsColumn
  pub text_column : IfSome l.text_column IsColumn
  pub label_break : IfSome l.label_break (λ n. n ≤ 120)
