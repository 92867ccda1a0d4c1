use Rattle.std.proofs.Common.{◌≡◌, map, drop}
use Rattle.stmt65.specs.Words.{first_way, value_of, way_in}
use Rattle.stmt65.proofs.assembling.coding.in_modes.Given as goal

abbrev pub invariant-modes : goal.invariant-modes
invariant-modes g l =
    first_way l.coder.opcodes.now l.coder.mnemonic (map (way_in l.is_short l.notation (value_of l.value)) (drop l.mode-index l.modes))
    ≡ first_way l.coder.opcodes.now l.coder.mnemonic (map (way_in l.is_short l.notation (value_of l.value)) l.modes)
