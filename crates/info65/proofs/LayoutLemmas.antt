-- What the layout of every type keeps.
use Rattle.std.proofs.Common.{◌≤◌, inl, inr, refl, arith}
use Rattle.info65.specs.Words.{ByteTable, Code, DbyteTable, DwordTable, IsEntry, RangeType, WordTable, layout_of}

pub layout_some : (r : RangeType) → 1 ≤ (layout_of r).unit
layout_some Code = omega arith
layout_some _ = omega arith

pub layout_line : (r : RangeType) → 1 ≤ (layout_of r).per_line
layout_line Code = omega arith
layout_line _ = omega arith

pub layout_entry : (r : RangeType) → IsEntry (layout_of r).unit (layout_of r).per_line (layout_of r).entry
layout_entry ByteTable = (inl refl, omega arith)
layout_entry WordTable = (inr (inl refl), omega arith)
layout_entry DbyteTable = (inr (inl refl), omega arith)
layout_entry DwordTable = (inr (inr (refl, refl)), omega arith)
layout_entry _ = (refl, omega arith)
