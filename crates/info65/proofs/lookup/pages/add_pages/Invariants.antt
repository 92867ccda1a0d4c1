use Rattle.std.proofs.Common.{◌+◌, ◌-◌, length}
use Rattle.info65.specs.Words.{SamePages}
use Rattle.info65.proofs.lookup.pages.add_pages.Given as goal

abbrev pub invariant-pages : goal.invariant-pages
invariant-pages g l = SamePages l.fn.pages.items l.pages.items

abbrev pub decreases-pages : goal.decreases-pages
decreases-pages g l = l.last + 1 - length l.pages.items
