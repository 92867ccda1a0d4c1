-- The lemmas on maps, marks and devices that crates above may cite. They cite nothing else of these proofs.
pub use Rattle.map65.proofs.BaseLaws.{base_law, place_law}
pub use Rattle.map65.proofs.ItemLaws.{begun, item_law}
pub use Rattle.map65.proofs.ItemLemmas.{in-run, inside-index, item-len-at, inside-if, joined-if, joined-in, item_start-after, item_start-within, joined-run, left-begun, left-first, left-going, left-inside, one-role, one-run-role, run-if, size-fits, size-one-piece, size-positive, skip-size, start-own, within}
pub use Rattle.map65.proofs.MarksLemmas.{blank_word, open_count, open_fewer}
pub use Rattle.map65.proofs.NameLaws.{reference_law}
pub use Rattle.map65.proofs.NameLemmas.{base-covered, base-none, entry_start_default, entry_start_given}
pub use Rattle.map65.proofs.PieceLaws.{run_law}
pub use Rattle.map65.proofs.RunLemmas.{has-role, role_at-inside}
pub use Rattle.map65.proofs.NamingLemmas.{address-at, address-count, addresses_more}
