-- A leaf's bytes are those of its text.
use Rattle.std.proofs.Common.{arith}
use Rattle.parser_input.proofs.lexed_str.LexedStr.text_len.Goals as goal

pub overflow_sub-result : goal.overflow_sub-result
overflow_sub-result c = omega (arith, c.text_range-range.ensures.start, c.text_range-range.ensures.end)

pub returns : goal.returns
returns c = omega (arith, c.text_range-range.ensures.start, c.text_range-range.ensures.end)
