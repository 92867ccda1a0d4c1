-- The addresses of an option, with commas between them.
use Rattle.std.specs.Prelude.{◌==◌, ℕ, List, [], ◌∷◌, Option, Some, None, Result, Ok}
use Rattle.std.specs.List.{slice_split}
use Rattle.clap.specs.Words.{Text}
use Rattle.usage65.specs.Number.{address_in}
use Rattle.usage65.specs.Values.{◌>>=◌}
use Rattle.usage65.specs.declared.fault.UsageFault.{UsageFault}

-- the address of each text, or the first fault
abbrev pub addresses_in : List Text → Result (List ℕ) UsageFault
addresses_in [] = Ok []
addresses_in (text ∷ texts) = address_in text >>= λ a. addresses_in texts >>= λ later. Ok (a ∷ later)

-- the texts between the commas
abbrev pub parts_of : Text → List Text
parts_of text = slice_split (λ b. b == 44) text

-- addresses with commas between them
unfoldable pub addresses_between : Text → Result (List ℕ) UsageFault
addresses_between text = addresses_in (parts_of text)

-- without the option there are none
abbrev pub addresses_given : Option Text → Result (List ℕ) UsageFault
addresses_given None = Ok []
addresses_given (Some text) = addresses_between text
