-- The lemmas on information files that crates above may cite. They cite nothing else of these proofs.
pub use Rattle.info65.proofs.CoveringLemmas.{Last, last_name, none_covers, own_address_wins}
pub use Rattle.info65.proofs.DefaultNames.{like_default}
pub use Rattle.info65.proofs.LayoutLemmas.{layout_entry, layout_line, layout_some}
pub use Rattle.info65.proofs.NumberLemmas.{number_great, number_none, number_small}
pub use Rattle.info65.proofs.TailLemmas.{IsKept, alike}
