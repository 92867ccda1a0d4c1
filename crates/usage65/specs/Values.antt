-- The values of a command line: what a program takes from the matches of `clap`, up to the first fault.
use Rattle.std.specs.Prelude.{◌≡◌, ◌==◌, Bool, false, true, Option, Some, None, Result, Ok, Err, List, codes, length, if◌then◌else◌}
use Rattle.std.specs.Str.{bytes_eq}
use Rattle.std.specs.Option.{option_map_or}
use Rattle.clap.specs.Words.{App, Row, Text, fault_of, first_of, is_simple, is_simple_and_free, matches_of, new_app}
use Rattle.clap.specs.Simple.{on_top}
use Rattle.isa65.specs.Words.{cpu_named}
use Rattle.isa65.specs.declared.cpu.Cpu.{Cpu}
use Rattle.usage65.specs.declared.fault.UsageFault.{UsageFault}
use Rattle.usage65.specs.declared.fault.UsageFault.TheVariants.{Memory, OutOfRange, Words}

-- the fault is the one of the definition, unless memory ran out
abbrev pub Fails : {A : Type 0} → UsageFault → Result A UsageFault → Type 0
Fails Memory defined = Unit {0}
Fails e defined = defined ≡ Err e

-- the result, seen by `seen`, is the one of the definition, unless memory ran out
abbrev pub Gives : {X A : Type 0} → (X → A) → Result X UsageFault → Result A UsageFault → Type 0
Gives seen (Ok x) defined = defined ≡ Ok (seen x)
Gives seen (Err e) defined = Fails e defined

-- a chain that stops at its first fault
infixl 10 ◌>>=◌
abbrev pub ◌>>=◌ : {A B E : Type 0} → Result A E → (A → Result B E) → Result B E
(Ok x) >>= f = f x
(Err e) >>= f = Err e

-- the value of an option, if it is given
abbrev pub given : {A : Type 0} → (Text → Result A UsageFault) → Option Text → Result (Option A) UsageFault
given read None = Ok None
given read (Some text) = read text >>= λ x. Ok (Some x)

abbrev pub known : Option Cpu → Result Cpu UsageFault
known (Some c) = Ok c
known None = Err OutOfRange

-- the CPU of this name
abbrev pub cpu_in : Text → Result Cpu UsageFault
cpu_in text = known (cpu_named text)

-- a flag is set if its value is `true`
abbrev pub is_set : Text → List Row → Bool
is_set id rows = option_map_or (λ t. bytes_eq t (codes "true")) (first_of id rows) false

-- a command of this name, with no help and no version of `clap`'s own
abbrev pub bare : Text → App
bare name = on_top (λ s. record s { disable_help_flag = true; disable_version_flag = true }) (new_app name)

-- `clap` says the matches and the faults of such a command
pub record IsPlain (app : App) : Type 0 where
  pub simple : is_simple app ≡ true
  pub free : is_simple_and_free app ≡ true

-- the matches of the words, of which the first is the program's name, if the command accepts them
unfoldable pub accepted : App → List Text → Result (List Row) UsageFault
accepted app words = if length (fault_of app words) == 0 then Ok (matches_of app words) else Err Words
