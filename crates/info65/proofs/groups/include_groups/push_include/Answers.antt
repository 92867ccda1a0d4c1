use Rattle.info65.specs.Words.{group_seen, named_seen}
use Rattle.info65.proofs.IncludeLemmas.{part_file}
use Rattle.info65.proofs.groups.include_groups.push_include.Goals as goal

pub text_of-requires : goal.text_of-requires
text_of-requires g c = part_file (group_seen c.args.group.now) (named_seen c.in-Some.named) c.requires c.in-Some.ensures
