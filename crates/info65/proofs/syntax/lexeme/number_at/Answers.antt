use Rattle.std.proofs.Common.{arith}
use Rattle.std.proofs.lemmas.List.{get_or_past}
use Rattle.info65.specs.Lexemes.{number_at}
use Rattle.info65.proofs.NumberLemmas.{front_number}
use Rattle.info65.proofs.syntax.lexeme.number_at.Goals as goal
use Rattle.info65.proofs.syntax.lexeme.number_at.Goals.{else-size-bytes, then-size-bytes, then-is_word-via-then-is_word, then-is_word-via-else-is_word+then-size-eq0, then-is_word-via-else-is_word+else-size-eq0+then-value-from}

pub returns-then-is_word-clause-value : goal.returns-then-is_word-clause-value
unfolding number_at
returns-then-is_word-clause-value c =
    let is = front_number c.args.class c.args.radix c.args.bytes.now _ _ c.requires.digits c.digits_at-size.ensures.size c.digits_at-size.ensures.value in
    elim c.then-is_word.branch [ then-is_word-via-then-is_word w ↦ grind arith | then-is_word-via-else-is_word+then-size-eq0 w ↦ grind arith | then-is_word-via-else-is_word+else-size-eq0+then-value-from w ↦ grind arith ]

pub returns-clause-value : goal.returns-clause-value
unfolding number_at
returns-clause-value c =
    let bs = c.args.bytes.now in
    let is = front_number c.args.class c.args.radix bs _ _ c.requires.digits c.digits_at-size.ensures.size c.digits_at-size.ensures.value in
    elim c.if-size-bytes.branch [ then-size-bytes w ↦ grind arith | else-size-bytes w ↦ let past = get_or_past bs c.digits_at-size.result.0 0 (omega arith) in grind arith ]
