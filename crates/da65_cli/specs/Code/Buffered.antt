-- What a buffer in front of a sink holds.
use Rattle.std.specs.Prelude.{ℕ, List, Option}
use Rattle.std.specs.Io.KnownBytes.{append_known}
use Rattle.da65_cli.specs.declared.buffered.Buffered.{Buffered}

-- the sink
abbrev pub buffered_out : {W : Type 0} → Buffered W → W
buffered_out b = b.out

-- the bytes that were collected and not yet passed on
abbrev pub buffered_bytes : {W : Type 0} → Buffered W → List ℕ
buffered_bytes b = b.block.bytes

-- the bytes that the sink took and then those of the buffer, where the sink tells them
abbrev pub buffered_taken : {W : Type 0} → (W → Option (List ℕ)) → Buffered W → Option (List ℕ)
buffered_taken taken b = append_known (taken b.out) b.block.bytes
