use Rattle.std.proofs.Common.{arith}
use Rattle.std.proofs.lemmas.Bool.Decides.{nat_tests}
use Rattle.std.proofs.Common.{sym, ◌∙◌}
use Rattle.std.proofs.lemmas.Slice.Eq.{bytes_eq-Decides}
use Rattle.parser_input.specs.WordTable.{row_of}
use Rattle.parser_input.proofs.WordPlaces.{place_of, slot_of, word_of-empty, word_of-listed, word_of-unlisted}
use Rattle.parser_input.proofs.keywords.word_spelled.Goals as goal

pub returns-then-is_empty : goal.returns-then-is_empty
returns-then-is_empty c = word_of-empty c.args.text.now (rw (← c.as_bytes-bytes.ensures.value) (grind (arith, nat_tests, c.is_empty.ensures, c.if-is_empty.true)))

pub returns-then-eq : goal.returns-then-eq
unfolding place_of slot_of
returns-then-eq c = word_of-listed c.args.text.now (row_of c.word_in-word.result.now) (rw (← c.as_bytes-bytes.ensures.value) c.word_in-word.ensures) ((bytes_eq-Decides c.word_in-word.result.now.text.now c.args.text.now).0 (sym c.eq.ensures ∙ c.if-eq.true))

pub returns-else-eq : goal.returns-else-eq
unfolding place_of slot_of
returns-else-eq c = word_of-unlisted c.args.text.now (row_of c.word_in-word.result.now) (rw (← c.as_bytes-bytes.ensures.value) c.word_in-word.ensures) (λ same. let yes = (bytes_eq-Decides c.word_in-word.result.now.text.now c.args.text.now).1 same in cc (c.eq.ensures, c.if-eq.false))
