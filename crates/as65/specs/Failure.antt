-- What is said after the text of a failure.
use Rattle.std.specs.Prelude.{ℕ, List}
use Rattle.files65.specs.FaultyLine.{said_after as said_of_listing}
use Rattle.as65.specs.Types.{Failure, Moved, Own, Refused, Segment}

-- what is said after the text of a failure
abbrev pub said_after : Failure Refused → List ℕ
said_after (Own (Moved listing number said)) = said.items
said_after (Own (Segment listing number said)) = said.items
said_after failure = said_of_listing failure
