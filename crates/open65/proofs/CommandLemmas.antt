-- The command is one of which `clap` says its matches and faults.
use Rattle.std.proofs.Common.{refl}
use Rattle.clap.proofs.OnLiterals.{clap_on_literals}
use Rattle.usage65.specs.Words.{IsPlain, command_of}
use Rattle.open65.specs.Command.{this_program}

pub app_is_plain : IsPlain (command_of this_program)
unfolding clap_on_literals command_of
app_is_plain = record { simple = refl; free = refl }
