use Rattle.std.proofs.Common.{◌≡◌, ◌≤◌, ◌+◌, ◌++◌, length, true}
use Rattle.stmt65.specs.Words.{readings, source_readings, source_state, state_in}
use Rattle.stmt65.proofs.AddressLemmas.{held_addresses}
use Rattle.stmt65.proofs.PassLaws.{AtLine}
use Rattle.stmt65.proofs.assembling.assembler.first_pass.Given as goal

abbrev pub invariant-lines : goal.invariant-lines
invariant-lines g l =
    record {
      at : AtLine l.fn.source l.number l.pass l.rest;
      shorter : l.number + length l.rest ≤ length l.fn.source.text.now + 1;
      ends : l.fn.are_wanted ≡ true → l.ends ++ held_addresses (state_in l.pass) (readings l.fn.source.language l.rest) ≡ held_addresses (source_state l.fn.source) (source_readings l.fn.source);
    }

abbrev pub decreases-lines : goal.decreases-lines
decreases-lines g l = length l.rest
