use Rattle.html65.proofs.LinkLemmas.{tag_passed, text_passed}
use Rattle.html65.proofs.faults.passed.Goals as goal

pub returns-in-Tag : goal.returns-in-Tag
returns-in-Tag c = λ rest same. rw c.in-Tag.is (tag_passed _ _ _ _ rest c.after_tag.ensures same)

pub returns-in-Some : goal.returns-in-Some
returns-in-Some c = λ rest same. rw c.in-Text.is (text_passed _ _ _ _ rest c.in-Some.ensures same)
