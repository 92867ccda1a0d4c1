use Rattle.std.proofs.Common.{◌∙◌, ap, ap₂}
use Rattle.std.specs.Bool.{then_some}
use Rattle.std.specs.Str.{str_eq_ignore_ascii_case}
use Rattle.isa65.specs.Words.{text_of}
use Rattle.isa65.proofs.MnemonicLaws.{mnemonic_named-is}
use Rattle.isa65.proofs.CandidateLaws.{candidate-is}
use Rattle.isa65.proofs.mnemonic.Mnemonic.from_bytes.Goals as goal

pub returns-clause-value : goal.returns-clause-value
returns-clause-value c =
    let text = c.text.ensures ∙ ap text_of c.candidate-mnemonic.ensures in
    c.then_some.ensures ∙ ap₂ then_some (c.is_same_word.ensures ∙ ap (λ t. str_eq_ignore_ascii_case t c.args.bytes.now) text) c.candidate-mnemonic.ensures ∙ candidate-is c.args.bytes.now

pub returns-clause-named : goal.returns-clause-named
returns-clause-named c m = rw (returns-clause-value c) (mnemonic_named-is c.args.bytes.now m)
