use Rattle.map65.proofs.MarksLemmas.{none_marked}
use Rattle.map65.proofs.marks.Marks.none.Goals as goal

pub returns : goal.returns
returns g c = λ a. none_marked _ 1024 a (c.in_ok-words.ensures.items_if_clones_equal (λ _ same. same))
