-- One statement with operands by name, in its state: it has no fault, and gives its bytes.
use Rattle.std.proofs.Common.{◌≡◌, ℕ, zero, suc, Bool, ◌+◌, ◌-◌, ◌%◌, ◌<◌, ◌≤◌, List, ◌∷◌, length, take, drop, map, None, refl, sym, subst, ◌∙◌, arith, []}
use Rattle.std.specs.List.{flat_map}
use Rattle.std.proofs.lemmas.List.{append-nil, length-take, length-take-le}
use Rattle.std.proofs.lemmas.List.Elements.{All-take}
use Rattle.isa65.specs.Words.{encoded-decoded, len_of, table_of, table_of-sound}
use Rattle.da65.specs.Words.{Addr, AreSound, Directive, GivesBytes, GroupGivesItsBytes, IsGroupOf, IsWritten, ItemGivesItsBytes, KnowsAll, KnowsConstants, LittleEndian, ModeIsChosenBack, AddressNames, Op, RangeType, Zero, fragments_in, instruction_in, is_forced, item_in, statement_for, statement_in}
use Rattle.stmt65.specs.Words.{Data, Definition, Entry, Fixed, Instr, NameValue, NumberValue, OperandsView, Operation, SourceLine, State, Statement, StatementView, Value, Values, coding, cpu_after, cut_text, datum_fragments, defined_by, entries, entry_len, entry_value, has_unknown_cpu, is_past_start, is_twice, operation_in, order_of, source_form, source_line}
use Rattle.stmt65.specs.declared.source_line.Minus.TheVariants.{One}
use Rattle.stmt65.specs.declared.directive.Directive.TheVariants.{Word}
use Rattle.map65.specs.Words.{AreBytes, ImageView, code_size, entry_of}
use Rattle.da65.proofs.Blocks.Knowledge.{knows_here}
use Rattle.da65.proofs.Statements.EachStatement.{OfCode, OfTable, of_group, of_item}
use Rattle.da65.proofs.Statements.FragmentLaws.{FragmentsGive, fixed_gives, no_fragments}
use Rattle.da65.proofs.Statements.LabelLaws.{group_takes, item_takes, label_read}
use Rattle.da65.proofs.Instructions.WorthLaws.{AlwaysWorth, word_worth_gives}
use Rattle.da65.proofs.Instructions.ModeLaws.{coded_in_mode}
use Rattle.da65.proofs.Instructions.OperandLaws.{bytes_of_operands}
use Rattle.da65.proofs.Instructions.ValueLaws.{IsWorth, before_worth, name_worth, number_worth}
use Rattle.da65.proofs.Statements.StandsLaws.{Stands, after_is, begins_with, bytes_are, data_stands, no_fault}
use Rattle.da65.proofs.Instructions.WrittenLaws.{first_byte, other_bytes}
use Rattle.da65.proofs.Statements.TableLaws.{entries_give, text_give}
use Rattle.isa65.proofs.ModeLaws.{len-positive}

-- ---- instructions

pub mode_is_chosen_back : ModeIsChosenBack
mode_is_chosen_back image m p s a bytes op os names known h =
    let is = begins_with (table_of s.cpu) bytes op h.begins in
    let opcode = (encoded-decoded (table_of s.cpu) (table_of-sound s.cpu) is.first op).1 is.opcode in
    record {
      opcode = is.first;
      is_opcode = opcode;
      coded = coded_in_mode image m p names s.cpu s.above known op.mnemonic is.first op.mode opcode a bytes h.are_bytes is.long os h.has s.at s.layout;
    }

-- the first of some bytes, and those after it
first_again : (n b : ℕ) (past bytes : List ℕ) → bytes ≡ b ∷ past → 1 ≤ n → b ∷ drop 1 (take n bytes) ≡ take n bytes
first_again zero b past bytes e some = absurd (omega arith)
first_again (suc n) b past bytes e some = rw e refl

module _ (image : ImageView) (m : AddressNames) (names : AreSound image m) where
  abbrev Full : List Definition → Type 0
  Full all = KnowsAll m all

  instruction_stands : (p : ℕ → Bool) (s : State) (bytes : List ℕ) (op : Op) (os : OperandsView) → KnowsConstants m p s.above → IsWritten m (table_of s.cpu) s.at bytes op os → s.at + length bytes ≤ 65536
      → Stands Full s (Instr op.mnemonic (source_form op.mode (is_forced (table_of s.cpu) op bytes) os)) (take (len_of op.mode) bytes)
  unfolding has_unknown_cpu cpu_after is_past_start mode_is_chosen_back
  instruction_stands p s bytes op os known h room =
      let is = begins_with (table_of s.cpu) bytes op h.begins in
      let long : len_of op.mode ≤ length bytes = is.long in
      let codes = mode_is_chosen_back image m p s s.at bytes op os names known h in
      let give = bytes_of_operands image m names op.mode s.at bytes os h.are_bytes long (omega arith) h.has in
      let all = fixed_gives Full (s.at + len_of op.mode) is.first (fragments_in op.mode os) (drop 1 (take (len_of op.mode) bytes)) give in
      record {
        fragments = Fixed is.first ∷ fragments_in op.mode os;
        known_cpu = refl;
        next_cpu = refl;
        coded = codes.coded;
        starts = refl;
        gives = rw (length-take-le (len_of op.mode) bytes long, ← first_again (len_of op.mode) is.first is.past bytes is.bytes_are (len-positive op.mode)) all;
      }

  -- ---- groups

  numbers_stand : (d : Directive) (s : State) (bytes : List ℕ) → AreBytes bytes → length bytes % entry_len d ≡ 0 → Stands Full s (Values d (map (entry_value d) (entries d bytes))) bytes
  unfolding has_unknown_cpu cpu_after coding is_past_start
  numbers_stand d s bytes are whole = record { fragments = map (Entry d) (map (entry_value d) (entries d bytes)); known_cpu = refl; next_cpu = refl; coded = refl; starts = refl; gives = entries_give Full (s.at + length bytes) d bytes are whole }

  text_stands : (s : State) (bytes : List ℕ) → AreBytes bytes → Stands Full s (Data (cut_text bytes)) bytes
  unfolding has_unknown_cpu cpu_after coding is_past_start
  text_stands s bytes are = record { fragments = flat_map datum_fragments (cut_text bytes); known_cpu = refl; next_cpu = refl; coded = refl; starts = refl; gives = text_give Full (s.at + length bytes) bytes are }

  -- an entry whose expression has the value of its bytes
  entry_stands : (d : Directive) → entry_len d ≡ 2 → order_of d ≡ LittleEndian → (s : State) (v : Value) (bytes : List ℕ) → AreBytes bytes → length bytes ≡ 2 → AlwaysWorth Full v (entry_of bytes) → Stands Full s (Values d (v ∷ [])) bytes
  unfolding has_unknown_cpu cpu_after coding is_past_start
  entry_stands d len low s v bytes are two worth = record { fragments = Entry d v ∷ []; known_cpu = refl; next_cpu = refl; coded = refl; starts = refl; gives = give bytes are two worth }
    where
      give : (bytes : List ℕ) → AreBytes bytes → length bytes ≡ 2 → AlwaysWorth Full v (entry_of bytes) → FragmentsGive Full (s.at + length bytes) (Entry d v ∷ []) bytes
      give [] are two worth = absurd cc
      give (b ∷ []) are two worth = absurd (omega (arith, two))
      give (b ∷ c ∷ []) are two worth = word_worth_gives Full _ d v b c [] [] len low worth (first_byte b (c ∷ []) are) (first_byte c [] (other_bytes b (c ∷ []) are)) (no_fragments Full _)
      give (b ∷ c ∷ e ∷ bytes) are two worth = absurd (omega (arith, two))

  abbrev StandsFor : State → StatementView → List ℕ → Type 0
  StandsFor s source bytes = Stands Full s (operation_in (source_line source)) bytes

  code_stands : (p : ℕ → Bool) (s : State) (bytes : List ℕ) → KnowsConstants m p s.above → AreBytes bytes → s.at + length bytes ≤ 65536 → OfCode m (table_of s.cpu) s.at bytes (StandsFor s)
  code_stands p s bytes known are room = record {
    front = λ n low high long. data_stands Full s (take n bytes) (All-take (λ b. b < 256) n bytes are);
    instruction = λ op os e f. instruction_stands p s bytes op os known (record { are_bytes = are; begins = e; has = f }) room;
  }

  table_stands : (s : State) (bytes : List ℕ) → AreBytes bytes → OfTable m bytes (StandsFor s)
  table_stands s bytes are = record {
    plain = λ _. data_stands Full s bytes are;
    text = λ _. text_stands s bytes are;
    numbers = λ d is. numbers_stand d s bytes are is.0;
    address = λ b two e. entry_stands Addr refl refl s (NameValue b.text (entry_of bytes - b.address) Zero) bytes are two (λ all k. name_worth m all (entry_of bytes) b k (names.bases (entry_of bytes) b e));
    nowhere = λ two e. entry_stands Word refl refl s (NumberValue 65535) bytes are two (λ all k. rw e (number_worth all 65535));
    return = λ b two other e.
        let back : entry_of bytes + 1 - 1 ≡ entry_of bytes = omega arith in
        entry_stands Word refl refl s (NameValue b.text (entry_of bytes + 1 - b.address) One) bytes are two
        (λ all k. subst (IsWorth all (NameValue b.text (entry_of bytes + 1 - b.address) One)) back (before_worth m all (entry_of bytes + 1) b k (names.bases (entry_of bytes + 1) b e) (omega arith)));
  }

  pub group_stands_at : (p : ℕ → Bool) (s : State) (r : RangeType) (bytes : List ℕ) → KnowsConstants m p s.above → AreBytes bytes → s.at + length bytes ≤ 65536
      → IsGroupOf (table_of s.cpu) r bytes → StandsFor s (statement_for m (table_of s.cpu) r s.at bytes) bytes
  group_stands_at p s r bytes known are room of = of_group m (table_of s.cpu) s.at bytes (StandsFor s) (code_stands p s bytes known are room) (table_stands s bytes are) r of

  -- a line of an operation that stands, without a label
  stands_give : (all : List Definition) (s : State) (o : Operation) (bytes : List ℕ) → KnowsAll m all → Stands Full s o bytes → s.at + length bytes ≤ 65536 → GivesBytes all s (Statement None o) bytes
  unfolding is_twice defined_by
  stands_give all s o bytes k h room = record {
    no_fault = no_fault Full s (Statement None o) s.cpu bytes h all (λ at. knows_here image m at all names k) refl refl room;
    gives = bytes_are Full s (Statement None o) s.cpu bytes h all (λ at. knows_here image m at all names k);
    leads = after_is Full s (Statement None o) s.cpu bytes h ∙ rw (append-nil s.above) refl;
  }

  pub item_gives : (p : ℕ → Bool) (all : List Definition) (s : State) (bytes : List ℕ) → KnowsAll m all → KnowsConstants m p s.above → AreBytes bytes → s.at + length bytes ≤ 65536
      → GivesBytes all s (source_line (statement_in m (table_of s.cpu) s.at bytes)) (item_in (table_of s.cpu) bytes)
  item_gives p all s bytes k known are room =
      let source : StatementView = statement_in m (table_of s.cpu) s.at bytes in
      subst (λ (line : SourceLine). GivesBytes all s line (item_in (table_of s.cpu) bytes)) (sym (label_read source None (item_takes m (table_of s.cpu) s.at bytes)))
      (stands_give all s (operation_in (source_line source)) (item_in (table_of s.cpu) bytes) k (of_item m (table_of s.cpu) s.at bytes (StandsFor s) (code_stands p s bytes known are room))
      (omega (arith, room, length-take (code_size (instruction_in (table_of s.cpu) bytes)) bytes)))

  pub group_gives : (p : ℕ → Bool) (all : List Definition) (s : State) (r : RangeType) (bytes : List ℕ) → KnowsAll m all → KnowsConstants m p s.above → AreBytes bytes → s.at + length bytes ≤ 65536
      → IsGroupOf (table_of s.cpu) r bytes → GivesBytes all s (source_line (statement_for m (table_of s.cpu) r s.at bytes)) bytes
  group_gives p all s r bytes k known are room of =
      let source : StatementView = statement_for m (table_of s.cpu) r s.at bytes in
      subst (λ (line : SourceLine). GivesBytes all s line bytes) (sym (label_read source None (group_takes m (table_of s.cpu) r s.at bytes of)))
      (stands_give all s (operation_in (source_line source)) bytes k (group_stands_at p s r bytes known are room of) room)

pub item_gives_its_bytes : ItemGivesItsBytes
item_gives_its_bytes image m all s bytes h = item_gives image m h.sound h.defined all s bytes h.known h.constants h.are_bytes h.room

pub group_gives_its_bytes : GroupGivesItsBytes
group_gives_its_bytes image m all s r bytes h of = group_gives image m h.sound h.defined all s r bytes h.known h.constants h.are_bytes h.room of
