-- Lines beside each other, one part after the other.
use Rattle.std.proofs.Common.{◌≡◌, ◌++◌, ◌<◌, ◌≤◌, ℕ, List, [], ◌∷◌, drop, Option, Some, None, MatchOption, is_some, false, true, ap, arith, length, refl}
use Rattle.std.proofs.lemmas.List.{length-append}
use Rattle.std.specs.List.{list_all}
use Rattle.text65.specs.Names.{is_blank}
use Rattle.stmt65.specs.Words.{Part, is_mark, part_of, parts}
use Rattle.stmt65.specs.declared.language.Language.{Language}
use Rattle.name65.specs.Compared.{GoesOn, IsHead, Renamed, Scope, after_part, become_halves, comes, ends, goes, halves, is_of_operand, may_change, stays, word_of}
use Rattle.name65.specs.Written.{IsPiece, IsRenamed, LeadsTo}
use Rattle.name65.specs.declared.compared.Compared.{Compared}
use Rattle.name65.specs.declared.compared.Piece.{Piece}

-- one part less is left
fewer : (language : Language) (line : List ℕ) (p : Piece) → IsPiece language line p → length (parts language p.rest.now) < length (parts language line)
fewer language line p is = let e : parts language line ≡ part_of p.part ∷ parts language p.rest.now = rw is.whole is.goes_on.reads in rw e (omega arith)

-- and fewer bytes
after_some : (language : Language) (part : Part) (blanks text rest : List ℕ) → GoesOn language part blanks text rest → length rest < length (blanks ++ (text ++ rest))
after_some language part [] [] rest g = let e = ap length g.reads in absurd (omega (arith, e))
after_some language part [] (b ∷ text) rest g = omega (arith, length-append text rest)
after_some language part (b ∷ blanks) text rest g = omega (arith, length-append blanks (text ++ rest), length-append text rest)

shorter : (language : Language) (line : List ℕ) (p : Piece) → IsPiece language line p → length p.rest.now < length line
shorter language line p is = rw is.whole (after_some language (part_of p.part) p.blanks.now p.text.now p.rest.now is.goes_on)

not_longer : (line front text more rest : List ℕ) → line ≡ front ++ text → text ≡ more ++ rest → length rest ≤ length line
not_longer line front text more rest e f = rw (e, f) (omega (arith, length-append front (more ++ rest), length-append more rest))

-- a part stays
pub part_stays : (scope : Scope) (a b : Compared) (old : Piece) (text : List ℕ) → IsPiece scope.language a.old.now old → a.new.now ≡ old.blanks.now ++ text → text ≡ old.text.now ++ b.new.now
    → b.cursor ≡ after_part (part_of old.part) a.cursor → b.old.now ≡ old.rest.now → LeadsTo scope a b
part_stays scope a b old text o blanks whole c rest = record {
  leads = λ r.
      let is : Renamed scope (after_part (part_of old.part) a.cursor) old.rest.now b.new.now = rw (← c, ← rest) r in
      rw (o.whole, blanks, whole) (stays (part_of old.part) old.blanks.now old.text.now o.goes_on is);
  fewer = let x = fewer scope.language a.old.now old o in let y = not_longer a.new.now old.blanks.now text old.text.now b.new.now blanks whole in rw rest (omega arith);
}

-- `.byte` becomes a directive of halves
pub directive_changes : (scope : Scope) (a b : Compared) (old new : Piece) → IsPiece scope.language a.old.now old → IsPiece scope.language a.new.now new → old.blanks.now ≡ new.blanks.now → a.cursor.stay ≡ 1
    → become_halves old.text.now new.text.now ≡ true → b.cursor ≡ after_part (part_of old.part) a.cursor → b.old.now ≡ old.rest.now → b.new.now ≡ new.rest.now → LeadsTo scope a b
directive_changes scope a b old new o n blanks one become c rest others = record {
  leads = λ r.
      let is : Renamed scope (after_part (part_of old.part) a.cursor) old.rest.now new.rest.now = rw (← c, ← rest, ← others) r in
      let same : GoesOn scope.language (part_of new.part) old.blanks.now new.text.now new.rest.now = rw blanks n.goes_on in
      rw (o.whole, n.whole, ← blanks) (halves (part_of old.part) (part_of new.part) old.blanks.now old.text.now new.text.now one become o.goes_on same is);
  fewer = let x = fewer scope.language a.old.now old o in let y = shorter scope.language a.new.now new n in rw (rest, others) (omega arith);
}

-- a part of a named operand goes
pub part_goes : (scope : Scope) (a b : Compared) (p : Piece) → IsPiece scope.language a.old.now p → may_change scope a.cursor ≡ true → is_of_operand (part_of p.part) ≡ true
    → b.cursor ≡ a.cursor → b.old.now ≡ p.rest.now → b.new.now ≡ a.new.now → LeadsTo scope a b
part_goes scope a b p o may of c rest others = record {
  leads = λ r.
      let is : Renamed scope a.cursor p.rest.now a.new.now = rw (← c, ← rest, ← others) r in
      rw o.whole (goes (part_of p.part) p.blanks.now p.text.now may of o.goes_on is);
  fewer = let x = fewer scope.language a.old.now p o in rw (rest, others) (omega arith);
}

-- a part of a named operand comes
pub part_comes : (scope : Scope) (a b : Compared) (p : Piece) → IsPiece scope.language a.new.now p → may_change scope a.cursor ≡ true → is_of_operand (part_of p.part) ≡ true
    → b.cursor ≡ a.cursor → b.old.now ≡ a.old.now → b.new.now ≡ p.rest.now → LeadsTo scope a b
part_comes scope a b p n may of c rest others = record {
  leads = λ r.
      let is : Renamed scope a.cursor a.old.now p.rest.now = rw (← c, ← rest, ← others) r in
      rw n.whole (comes (part_of p.part) p.blanks.now p.text.now may of n.goes_on is);
  fewer = let x = shorter scope.language a.new.now p n in rw (rest, others) (omega arith);
}

-- nothing but blanks and a comment is left
pub all_done : (scope : Scope) (c : Compared) (blanks comment others same : List ℕ) → c.old.now ≡ blanks ++ comment → c.new.now ≡ others ++ same → list_all is_blank blanks ≡ true
    → list_all is_blank others ≡ true → comment ≡ same → parts scope.language c.old.now ≡ [] → IsRenamed scope c
all_done scope c blanks comment others same o n b d e p = rw (o, n, ← e) (ends blanks others comment b d (rw o at p))

-- no part is left
pub none_left : (P : Type 0) (Q : Piece → Type 0) (o : Option Piece) → MatchOption o P Q → is_some o ≡ false → P
none_left P Q None m e = m
none_left P Q (Some p) m e = absurd cc

-- what stands before the operands
pub labelled : (ps rest left more : List Part) (first operation : Part) (word : List ℕ) → ps ≡ first ∷ rest → is_mark 58 rest ≡ true → left ≡ drop 1 rest → left ≡ operation ∷ more
    → word ≡ word_of operation → IsHead ps 3 word
labelled ps rest left more first operation word e m d f w = record { len_is = rw (e, m) refl; word_is = rw (e, m, ← d, f, w) refl }

pub unlabelled : (ps rest : List Part) (first : Part) (word : List ℕ) → ps ≡ first ∷ rest → is_mark 58 rest ≡ false → word ≡ word_of first → IsHead ps 1 word
unlabelled ps rest first word e m w = record { len_is = rw (e, m) refl; word_is = rw (e, m, w) refl }
