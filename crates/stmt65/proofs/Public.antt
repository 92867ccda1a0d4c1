-- The lemmas on lines and codings that crates above may cite. They cite nothing else of these proofs.
pub use Rattle.stmt65.proofs.EntryLaws.{entry_size, bytes_back, number_fits}
pub use Rattle.stmt65.proofs.ModeLemmas.{takes_modes, needs_mode}
pub use Rattle.stmt65.proofs.ReadBack.{prints_as}
pub use Rattle.stmt65.proofs.RepairLaw.{keeps_listings}
