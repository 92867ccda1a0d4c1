use Rattle.std.proofs.Common.{rules}
use Rattle.html65.proofs.PieceLemmas.{first_is_entity, first_is_tag}
use Rattle.html65.proofs.pieces.first_piece.Goals as goal

pub returns-then-first-eq60 : goal.returns-then-first-eq60
returns-then-first-eq60 c = first_is_tag _ _ _ (search rules) (search rules) c.len_before-len.ensures.value c.after.ensures

pub returns-then-first-eq38 : goal.returns-then-first-eq38
returns-then-first-eq38 c = first_is_entity _ _ _ _ (search rules) (search rules) (search rules) c.entity_at-len.ensures.text c.entity_at-len.ensures.len c.entity_at-len.ensures.some c.after-then-first-eq38.ensures
