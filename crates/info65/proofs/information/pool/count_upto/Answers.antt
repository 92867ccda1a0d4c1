use Rattle.std.proofs.Common.{leb, leb-false, rules}
use Rattle.std.proofs.lemmas.List.Sorted.{IsPartitionPoint-from_clause, IsPartitionedBy-leb}
use Rattle.info65.specs.Words.{blank_entry}
use Rattle.info65.specs.declared.information.pool.Entry.{Entry}
use Rattle.info65.proofs.information.pool.count_upto.Goals as goal

pub returns : goal.returns
returns c =
    let parted = IsPartitionedBy-leb (λ (e : Entry). e.address) _ c.args.address c.requires in
    let point = IsPartitionPoint-from_clause (λ (e : Entry). leb e.address c.args.address) _ _ c.partition_point.ensures.partitioned parted (λ a r q k. search rules) in
    record { bound = c.partition_point.ensures.bound; rest = record { each = λ i from low. leb-false _ _ (point.1 i blank_entry from low) } }
