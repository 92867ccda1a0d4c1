use Rattle.std.proofs.Common.{arith, eqb, w8}
use Rattle.std.proofs.lemmas.Simd.{bitmask_splat}
use Rattle.html65.proofs.PieceLemmas.{marked}
use Rattle.html65.proofs.pieces.block_len.Goals as goal

pub returns : goal.returns
returns c = marked c.args.byte c.args.block _ c.fits-block.0 (bitmask_splat w8 eqb c.args.block 32 c.args.byte c.fits-block.0 (omega arith))
