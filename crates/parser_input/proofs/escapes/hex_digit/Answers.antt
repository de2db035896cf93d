use Rattle.std.proofs.Common.{arith, inl, inr}
use Rattle.parser_input.proofs.EscapeSteps.{hex-ranges}
use Rattle.parser_input.proofs.escapes.hex_digit.Goals as goal

pub overflow_sub-result : goal.overflow_sub-result
overflow_sub-result c = elim (hex-ranges c.args.c c.requires) [ inl r ↦ omega arith | inr (inl r) ↦ omega arith | inr (inr r) ↦ omega arith ]

pub returns-then-c-ge97-clause-range : goal.returns-then-c-ge97-clause-range
returns-then-c-ge97-clause-range c = elim (hex-ranges c.args.c c.requires) [ inl r ↦ omega arith | inr (inl r) ↦ omega arith | inr (inr r) ↦ omega arith ]

pub returns-else-c-ge97-clause-range : goal.returns-else-c-ge97-clause-range
returns-else-c-ge97-clause-range c = elim (hex-ranges c.args.c c.requires) [ inl r ↦ omega arith | inr (inl r) ↦ omega arith | inr (inr r) ↦ omega arith ]
