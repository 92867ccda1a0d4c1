-- The words of clauses and proofs, here and in the crates above, from one place.
pub use Rattle.usage65.specs.Addresses.{addresses_given, addresses_in, parts_of}
unfoldable pub use Rattle.usage65.specs.Addresses.{addresses_between}
pub use Rattle.usage65.specs.Choices.{ChoiceView, ProgramView}
pub use Rattle.usage65.specs.Code.Names.{asked_of, names_seen, text_seen, texts_seen}
pub use Rattle.usage65.specs.Code.Rows.{HasRule, choice_of, program_of, row_of}
pub use Rattle.usage65.specs.Command.{rule_for, with_choices}
unfoldable pub use Rattle.usage65.specs.Command.{command_of}
pub use Rattle.usage65.specs.FileNames.{info_named, input_named, is_name, is_taken, output_named}
pub use Rattle.usage65.specs.Help.{help_line, names, names_and_value, with_line_feed, with_value}
unfoldable pub use Rattle.usage65.specs.Help.{help_of, text_asked, version_of}
pub use Rattle.usage65.specs.Number.{address_in, byte_in}
unfoldable pub use Rattle.usage65.specs.Number.{decimal_in, number_in, numeral_in}
pub use Rattle.usage65.specs.Requests.{BadUsage, LacksStart, FileNamesView, Refusal, TwoOfStandardInput, asked, fault_for, or_refused}
unfoldable pub use Rattle.usage65.specs.Requests.{names_apart}
pub use Rattle.usage65.specs.Values.{IsPlain, bare, cpu_in, given, is_set, ◌>>=◌}
unfoldable pub use Rattle.usage65.specs.Values.{accepted}
pub use Rattle.usage65.specs.declared.fault.UsageFault.TheVariants.{BadNumber, OutOfRange}
