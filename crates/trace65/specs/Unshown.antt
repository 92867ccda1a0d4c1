-- Which reached instructions the listing does not show.
use Rattle.std.specs.Prelude.{◌==◌, ◌&&◌, ◌∷◌, ◌++◌, ℕ, Bool, false, not, List, [], length, Option, Some, None, codes, if◌then◌else◌}
use Rattle.std.specs.List.{filter, flat_map}
use Rattle.isa65.specs.Words.{len_of}
use Rattle.isa65.specs.declared.op.Op.{Op}
use Rattle.map65.specs.Words.{MapView, MarksView, addresses, is_marked, item_len}
use Rattle.reach65.specs.Words.{instruction_at}
use Rattle.text65.specs.Digits.{digits4}

-- no item of the map begins at the address that is as long as the instruction there
abbrev pub lacks_item : MapView → ℕ → Option Op → Bool
lacks_item shown a None = false
lacks_item shown a (Some op) = not (item_len shown a == len_of op.mode)

-- an instruction is reached that begins at the address, and the first map does not show it
unfoldable pub is_unshown : MapView → MapView → MarksView → ℕ → Bool
is_unshown shown m reached a = is_marked reached a && lacks_item shown a (instruction_at m a)

-- the addresses of the image at which that is so, in their order
unfoldable pub unshown_in : MapView → MapView → MarksView → List ℕ
unshown_in shown m reached = filter (is_unshown shown m reached) (addresses (length m.image.bytes) m.image.start)

-- one of them in the comment
unfoldable pub unshown_item : ℕ → List ℕ
unshown_item a = codes " $" ++ digits4 a

abbrev pub unshown_items : List ℕ → List ℕ
unshown_items unshown = flat_map unshown_item unshown

-- the comment on these, in their order, as a line: none if there are none
abbrev pub unshown_lines : List ℕ → List ℕ
unshown_lines unshown =
    if length unshown == 0 then [] else (codes "# no item of its own:" ++ (unshown_items unshown ++ 10 ∷ []))
