-- Sets of lemmas, each by the function whose proof they make.
use Rattle.info65.proofs.IncludedLemmas.{fresh, line_seen}
use Rattle.info65.proofs.IndexLemmas.{elsewhere_by, elsewhere_is, other_way, same_text}
use Rattle.std.proofs.Common.{get_or, option_map}
use Rattle.std.proofs.lemmas.Bool.{eq-eqb, eqb-true}
use Rattle.std.proofs.lemmas.Grind.{common_steps}
use Rattle.std.proofs.lemmas.List.{take_all, take_more}
use Rattle.std.proofs.lemmas.Map.Text.{btree_map_updates_str}
use Rattle.std.proofs.lemmas.Slice.Eq.{bytes_eq-Decides}

pub ruleset index_of_rules = (fresh, take_more, take_all, common_steps)

pub ruleset line_adds_rules = (option_map, line_seen, common_steps)

pub ruleset index_is_elsewhere_rules = (elsewhere_is, elsewhere_by, common_steps)

pub ruleset texts_add_rules = (get_or, eqb-true, eq-eqb, same_text, btree_map_updates_str, bytes_eq-Decides, other_way, common_steps)
