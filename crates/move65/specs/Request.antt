-- What a command line asks for.
use Rattle.std.specs.Prelude.{◌==◌, ◌||◌, ℕ, List, Option, Result, Ok, Err, codes, if◌then◌else◌, unwrap_or}
use Rattle.clap.specs.Words.{Row, first_of}
use Rattle.info65.specs.Words.{OptionsView, no_options}
use Rattle.usage65.specs.Words.{BadUsage, FileNamesView, Refusal, address_in, addresses_given, cpu_in, given, info_named, input_named, names_apart, names_seen, or_refused, output_named, ◌>>=◌}
use Rattle.usage65.specs.declared.fault.UsageFault.TheVariants.{OutOfRange}
use Rattle.move65.specs.declared.request.Moving.{Moving}
use Rattle.move65.specs.declared.request.TheConstants.{BY}
use Rattle.move65.specs.declared.runs.TheConstants.{LONG}

-- a listing that runs here and later: the names of files, the options of da65 that say what the image is, the entries,
-- how much later, and how many instructions a run has, at most
pub record MovingView : Type 0 where
  pub names : FileNamesView
  pub options : OptionsView
  pub entries : List ℕ
  pub by : ℕ
  pub steps : ℕ

abbrev pub moving_of : Moving → MovingView
moving_of m = record { names = names_seen m.names; options = m.options; entries = m.entries.items; by = m.by; steps = m.steps }

-- the distance and the number of instructions are not 0; that is looked at before the names
abbrev pub moved_with : List Row → OptionsView → List ℕ → ℕ → ℕ → Result MovingView Refusal
moved_with rows options entries by steps =
    if by == 0 || steps == 0 then Err (BadUsage OutOfRange)
    else (names_apart (input_named (first_of (codes "listing") rows)) (info_named (first_of (codes "info") rows)) (output_named (first_of (codes "output") rows)) >>= λ names.
    Ok (record { names = names; options = options; entries = entries; by = by; steps = steps }))

-- the run that is asked for, or the first fault in the order of start, CPU, entries, distance and instructions
unfoldable pub moving_in : List Row → Result MovingView Refusal
moving_in rows =
    or_refused (given address_in (first_of (codes "start") rows)) >>= λ start.
    or_refused (given cpu_in (first_of (codes "cpu") rows)) >>= λ cpu.
    or_refused (addresses_given (first_of (codes "entry") rows)) >>= λ entries.
    or_refused (given address_in (first_of (codes "by") rows)) >>= λ by.
    or_refused (given address_in (first_of (codes "steps") rows)) >>= λ steps.
    moved_with rows (record no_options { start = start; cpu = cpu }) entries (unwrap_or by BY) (unwrap_or steps LONG)
