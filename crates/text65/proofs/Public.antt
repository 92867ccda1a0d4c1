-- The lemmas on names that crates above may cite. They cite nothing else of these proofs.
pub use Rattle.text65.proofs.NameLemmas.{long_word}
