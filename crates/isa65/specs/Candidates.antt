-- How a word is looked up among the mnemonics: its number leads to the only one that it can be.
use Rattle.std.specs.Prelude.{ℕ, ◌+◌, ◌*◌, ◌%◌, List, get_or}
use Rattle.isa65.specs.Types.{Adc, Mnemonic, PLACES}
use Rattle.isa65.specs.declared.mnemonic.TheConstants.{ALL}

-- a number of the first four letters
unfoldable pub number_of : List ℕ → ℕ
number_of word = (get_or word 0 0 + get_or word 1 0 * 133 + get_or word 2 0 * 231 + get_or word 3 0 * 9) % 247

-- the only mnemonic that a word in lower case can be
unfoldable pub candidate : List ℕ → Mnemonic
candidate word = get_or ALL (get_or PLACES (number_of word) 0) Adc
