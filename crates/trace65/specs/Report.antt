-- What is found of an image, and what is written of it.
use Rattle.std.specs.Prelude.{◌≡◌, ◌++◌, ℕ, Bool, true, false, List, Ok, length, take}
use Rattle.info65.specs.Words.{InfoView, OptionsView, information}
use Rattle.info65.specs.declared.information.range.RangeSpec.{RangeSpec}
use Rattle.map65.specs.Words.{MapView, MarksView, is_marked, mapped}
use Rattle.reach65.specs.Words.{AreInOrder, AreReached, FlowView, HaveAllFree, LieIn, is_code, is_taken}
use Rattle.trace65.specs.Check.{Says}
use Rattle.trace65.specs.Skips.{AreSkips}
use Rattle.trace65.specs.Unshown.{unshown_in, unshown_lines}
use Rattle.trace65.specs.declared.report.Findings.{Findings}
use Rattle.trace65.specs.declared.report.InfoFile.{InfoFile}
use Rattle.trace65.specs.declared.report.Report.{Report}
use Rattle.trace65.specs.declared.request.Tracing.{Tracing}

-- ---- what is found

-- the instructions of a map, and where they lead, with the groups `#: ..` of the file
abbrev pub flow_of : MapView → InfoFile → FlowView
flow_of m file = record { map = m; tags = file.tags.now }

-- the list begins with the other one
abbrev pub Begins : List ℕ → List ℕ → Type 0
Begins all first = take (length first) all ≡ first

-- the ranges have exactly the addresses of the image that no reached instruction
-- and no range of the information file has
abbrev pub HaveTheRest : MapView → MarksView → List RangeSpec → Type 0
HaveTheRest m reached ranges = HaveAllFree m.image (is_taken m (is_code m (is_marked reached))) ranges

-- What is reached is what the entries lead to, those that were given among them. The ranges have the rest of the image
-- and nothing else, and no two of them share an address. Each further range is an opcode that hides an instruction.
pub record AreFindings (flow : FlowView) (asked : Tracing) (f : Findings) : Type 0 where
  pub given_first : Begins f.entries.items asked.entries.items
  pub reached : AreReached flow f.entries.items (is_marked f.reached)
  pub cover : HaveTheRest flow.map f.reached f.proposed.ranges.items
  pub inside : LieIn flow.map.image f.proposed.ranges.items
  pub apart : AreInOrder f.proposed.ranges.items
  pub skips : AreSkips flow.map f.reached f.proposed.skips.items

-- ---- what is written

-- what follows the information file: what is found, and a comment on each reached
-- instruction that the listing does not show
abbrev pub proposals : Findings → List ℕ → List ℕ
proposals f unshown = f.proposed.text.items ++ unshown_lines unshown

-- the ranges of the rest, and then those of opcodes
abbrev pub proposed_ranges : Findings → List RangeSpec
proposed_ranges f = f.proposed.ranges.items ++ f.proposed.skips.items

-- After the information file this is accepted, and the whole says what the file says, these ranges and these labels. In
-- the map of all that, each reached instruction is an item that is as long, except those of the list.
pub record IsReadBack (o : OptionsView) (file : InfoFile) (m : MapView) (f : Findings) (unshown : List ℕ) : Type 0 where
  pub info : InfoView
  pub accepted : information o (file.bytes.now ++ proposals f unshown) ≡ Ok info
  pub says : Says file.info.now (proposed_ranges f) f.proposed.labels.items info
  pub shown : unshown ≡ unshown_in (mapped info m.image) m f.reached

abbrev pub IsAccepted : OptionsView → InfoFile → MapView → Report → Type 0
IsAccepted o file m r = IsReadBack o file m r.found r.unshown.items

-- the information file, if the whole is to be written, and then the rest
abbrev pub after_file : Bool → List ℕ → List ℕ → List ℕ
after_file true file rest = file ++ rest
after_file false file rest = rest

abbrev pub written : Bool → InfoFile → Findings → List ℕ → List ℕ
written whole file f unshown = after_file whole file.bytes.now (proposals f unshown)

abbrev pub IsWritten : Bool → InfoFile → Report → Type 0
IsWritten whole file r = r.text.items ≡ written whole file r.found r.unshown.items
