use Rattle.std.proofs.Common.{◌≡◌, ◌<◌, drop}
use Rattle.info65.specs.Words.{hash_from}
use Rattle.info65.proofs.lookup.texts.hash_of.Given as goal

abbrev pub invariant-loop-byte : goal.invariant-loop-byte
invariant-loop-byte l = record {
  within : l.hash < 0x10_0000;
  same : hash_from l.hash (drop l.byte-index l.text) ≡ hash_from 0 l.text;
}
