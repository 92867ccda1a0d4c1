-- What a command line asks for.
use Rattle.std.specs.Prelude.{ℕ, Bool, false, List, Option, Some, None, Result, Ok, Err, codes, if◌then◌else◌, option_map}
use Rattle.std.specs.String.{string_bytes}
use Rattle.clap.specs.Words.{Row, Text, first_of}
use Rattle.info65.specs.Words.{OptionsView, no_options}
use Rattle.isa65.specs.declared.cpu.Cpu.{Cpu}
use Rattle.usage65.specs.Words.{Refusal, TwoOfStandardInput, address_in, addresses_given, cpu_in, given, info_named, is_set, is_taken, or_refused, output_named, ◌>>=◌}
use Rattle.trace65.specs.declared.request.Tracing.{Tracing}

-- what is asked for: the options of da65 that say what the image is, the entries, whether no more is followed, whether
-- the information file is written first, and the output
pub record TracingView : Type 0 where
  pub options : OptionsView
  pub entries : List ℕ
  pub plain : Bool
  pub whole : Bool
  pub output : Option Text

abbrev pub tracing_of : Tracing → TracingView
tracing_of t = record { options = t.options; entries = t.entries.items; plain = t.plain; whole = t.whole; output = option_map string_bytes t.output }

-- the options of da65 that have these values, and no others
abbrev pub options_with : Option Text → Option Text → Option ℕ → Option Cpu → OptionsView
options_with info input start cpu = record no_options { info = info; input = input; start = start; cpu = cpu }

-- standard input would have to be the image and the information file
abbrev pub is_twice : Option Text → Option Text → Bool
is_twice info None = false
is_twice info (Some image) = is_taken info image

-- standard input can be only one of the inputs
abbrev pub files_apart : Option Text → Option Text → TracingView → Result TracingView Refusal
files_apart info image traced = if is_twice info image then Err TwoOfStandardInput else Ok traced

-- what is to be traced, once the start, the CPU and the entries are known
abbrev pub traced_with : List Row → Option ℕ → Option Cpu → List ℕ → Result TracingView Refusal
traced_with rows start cpu entries =
    files_apart (info_named (first_of (codes "info") rows)) (info_named (first_of (codes "image") rows)) (record {
      options = options_with (info_named (first_of (codes "info") rows)) (info_named (first_of (codes "image") rows)) start cpu;
      entries = entries;
      plain = is_set (codes "plain") rows;
      whole = is_set (codes "whole") rows;
      output = output_named (first_of (codes "output") rows);
    })

-- the image that is to be traced, or the first fault in the order of start, CPU and entries
unfoldable pub traced_in : List Row → Result TracingView Refusal
traced_in rows =
    or_refused (given address_in (first_of (codes "start") rows)) >>= λ start.
    or_refused (given cpu_in (first_of (codes "cpu") rows)) >>= λ cpu.
    or_refused (addresses_given (first_of (codes "entry") rows)) >>= λ entries.
    traced_with rows start cpu entries
