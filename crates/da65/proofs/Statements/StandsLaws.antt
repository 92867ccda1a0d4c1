-- One statement in its state: it has no fault, and gives its bytes.
use Rattle.std.proofs.Common.{arith, ◌≡◌, ℕ, false, ◌+◌, ◌≤◌, List, ◌∷◌, ◌++◌, length, map, Option, Some, None, refl, subst, []}
use Rattle.std.specs.Prelude.{nat_lt, IfSome}
use Rattle.std.specs.List.{flat_map, list_any}
use Rattle.std.proofs.lemmas.Bool.{le-ltb}
use Rattle.isa65.specs.Words.{Table, decoded, len_of}
use Rattle.da65.specs.Words.{Cpu, Op, instruction_in}
use Rattle.stmt65.specs.Words.{Data, Definition, Fragment, NumberDatum, Operation, SourceLine, State, after, bytes_of, coding, cpu_after, datum_fragments, defined_by, fault_of, fragments_of, has_no_form, has_unknown_cpu, here_in, is_out_of_range, is_past_end, is_past_start, is_twice, is_undefined, names_for, next_of, operation_in, with_here}
use Rattle.map65.specs.Words.{AreBytes}
use Rattle.da65.proofs.Statements.FragmentLaws.{FragmentsGive, data_give}

-- The operation is coded by fragments that give these bytes, and leads to the CPU.
pub record StandsTo (Full : List Definition → Type 0) (s : State) (o : Operation) (cpu : Cpu) (bytes : List ℕ) : Type 0 where
  pub fragments : List Fragment
  pub known_cpu : has_unknown_cpu o ≡ false
  pub next_cpu : cpu_after s.cpu o ≡ cpu
  pub coded : coding s o ≡ Some fragments
  pub starts : is_past_start s o ≡ false
  pub gives : FragmentsGive Full (s.at + length bytes) fragments bytes

-- the same of one that says nothing of the CPU
abbrev pub Stands : (List Definition → Type 0) → State → Operation → List ℕ → Type 0
Stands Full s o bytes = StandsTo Full s o s.cpu bytes

-- ---- a line whose operation stands

-- it holds of the definitions whatever address `*` has beside them
abbrev pub Always : (List Definition → Type 0) → List Definition → Type 0
Always Full all = (at : Option ℕ) → Full (with_here at all)

module _ (Full : List Definition → Type 0) (s : State) (source : SourceLine) (cpu : Cpu) (bytes : List ℕ) (h : StandsTo Full s (operation_in source) cpu bytes) where
  fragments_are : fragments_of s source ≡ h.fragments
  unfolding fragments_of
  fragments_are = rw h.coded refl

  next_is : next_of s source ≡ s.at + length bytes
  unfolding next_of
  next_is = rw (fragments_are, h.gives.long) refl

  pub after_is : after s (Some source) ≡ record { at = s.at + length bytes; cpu = cpu; above = s.above ++ defined_by s.at source; layout = s.layout }
  unfolding after
  after_is = rw (next_is, h.next_cpu) refl

  pub bytes_are : (all : List Definition) → Always Full all → bytes_of all s (Some source) ≡ bytes
  unfolding bytes_of
  bytes_are all full = rw (next_is, fragments_are) (h.gives.gives (names_for all s source) (full (here_in s.at (operation_in source))))

  has_form : has_no_form s source ≡ false
  unfolding has_no_form
  has_form = rw h.coded refl

  is_defined : (all : List Definition) → Full all → is_undefined all s source ≡ false
  unfolding is_undefined
  is_defined all full = rw (fragments_are, h.gives.known all full) refl

  in_range : (all : List Definition) → Full all → list_any (λ d. nat_lt 65535 d.value) (defined_by s.at source) ≡ false → is_out_of_range all s source ≡ false
  unfolding is_out_of_range
  in_range all full e = rw (next_is, fragments_are, h.gives.fits all full, e) refl

  has_room : s.at + length bytes ≤ 65536 → is_past_end s source ≡ false
  unfolding is_past_end
  has_room room = rw next_is (le-ltb 65536 (s.at + length bytes) room)

  -- if it defines nothing twice, and all in the address space
  pub no_fault : (all : List Definition) → Always Full all → is_twice s source ≡ false → list_any (λ d. nat_lt 65535 d.value) (defined_by s.at source) ≡ false → s.at + length bytes ≤ 65536 → fault_of all s (Some source) ≡ None
  unfolding fault_of
  no_fault all full new space room =
      let names : List Definition = names_for all s source in
      let holds : Full names = full (here_in s.at (operation_in source)) in
      rw (h.known_cpu, has_form, is_defined names holds, new, in_range names holds space, h.starts, has_room room) refl

-- ---- data

pub data_stands : (Full : List Definition → Type 0) (s : State) (bytes : List ℕ) → AreBytes bytes → Stands Full s (Data (map NumberDatum bytes)) bytes
unfolding has_unknown_cpu cpu_after coding is_past_start
data_stands Full s bytes are = record {
  fragments = flat_map datum_fragments (map NumberDatum bytes);
  known_cpu = refl;
  next_cpu = refl;
  coded = refl;
  starts = refl;
  gives = data_give Full (s.at + length bytes) bytes are;
}

-- ---- instructions

-- what bytes begin with that begin with an instruction
pub record BeginsWith (t : Table) (bytes : List ℕ) (op : Op) : Type 0 where
  pub first : ℕ
  pub past : List ℕ
  pub bytes_are : bytes ≡ first ∷ past
  pub opcode : decoded t first ≡ Some op
  pub long : len_of op.mode ≤ length bytes

pub begins_with : (t : Table) (bytes : List ℕ) (op : Op) → instruction_in t bytes ≡ Some op → BeginsWith t bytes op
unfolding instruction_in
begins_with t [] op e = absurd cc
begins_with t (b ∷ bytes) op e = grind arith

-- what is known of all that IfSome speaks of
pub at_some : {A : Type 0} (P : A → Type 0) (o : Option A) (x : A) → o ≡ Some x → IfSome o P → P x
at_some P None x e h = absurd cc
at_some P (Some y) x e h = let same : y ≡ x = cc in subst P same h
