-- Each path reads what the rule comes to there.
use Rattle.std.proofs.Common.{inl, inr, refl, arith}
use Rattle.rust_grammar.specs.Expressions.{expressions}
use Rattle.rust_grammar.specs.Items.{items}
use Rattle.rust_grammar.specs.Meaning.{begins_below, look_of}
use Rattle.rust_grammar.specs.Notation.{any_of, is_longer, no_longer, longest, one_of, row}
use Rattle.rust_grammar.specs.Paths.{paths}
use Rattle.rust_grammar.specs.Patterns.{patterns}
use Rattle.rust_grammar.specs.Rule.{begins, in_mode, from_start, is_silent, passes, shift, there_at}
use Rattle.rust_grammar.specs.Statements.{statements}
use Rattle.rust_grammar.specs.Types.{types}
use Rattle.rust_grammar.specs.Whole.{rule, whole}
use Rattle.rust_grammar.specs.Rule as rules
use Rattle.rust_productions.proofs.Facts.{nothing, saw-so, ◌and◌}
use Rattle.rust_productions.proofs.Looking.{saw-arm, saw-not}
use Rattle.rust_productions.proofs.Seen.{saw-before, starts-here}
use Rattle.rust_productions.proofs.Peeking.{peeks-then, peeks-within}
use Rattle.rust_grammar.specs.Items.{field_front}
use Rattle.rust_productions.proofs.Staying.{stays-peeks}
use Rattle.grammar_reader.proofs.grammar.items.members.at_record_field.Goals as goal

pub returns-in-PUB_KW-clause-sees : goal.returns-in-PUB_KW-clause-sees
unfolding look_of begins_below whole rule items statements expressions patterns types paths there_at shift passes is_silent begins in_mode from_start row one_of any_of no_longer longest is_longer
returns-in-PUB_KW-clause-sees c cond = elim c.in-PUB_KW.is [ inl a0 ↦ starts-here field_front (saw-arm a0 (c.current.ensures.sees cond) and nothing) refl | inr b0 ↦ elim b0 [ inl a1 ↦ starts-here field_front (saw-arm a1 (c.current.ensures.sees cond) and nothing) refl | inr b1 ↦ starts-here field_front (saw-arm b1 (c.current.ensures.sees cond) and nothing) refl ] ]

pub returns-in-PUB_KW-clause-peeks : goal.returns-in-PUB_KW-clause-peeks
returns-in-PUB_KW-clause-peeks c = peeks-within (c.current.ensures.peeks) (omega arith)

pub returns-then-at_whole-clause-sees : goal.returns-then-at_whole-clause-sees
unfolding look_of begins_below whole rule items statements expressions patterns types paths there_at shift passes is_silent begins in_mode from_start row one_of any_of no_longer longest is_longer
returns-then-at_whole-clause-sees c cond = starts-here field_front (saw-arm c.in-UNSAFE_KW.is (c.current.ensures.sees cond) and saw-before c.current.ensures.peeks.same (saw-so (c.at_whole.ensures.sees cond) c.if-at_whole.true) and nothing) refl

pub returns-then-at_whole-clause-peeks : goal.returns-then-at_whole-clause-peeks
returns-then-at_whole-clause-peeks c = peeks-within (peeks-then c.current.ensures.peeks (stays-peeks c.at_whole.ensures.same c.at_whole.ensures.stays)) (omega arith)

pub returns-else-at_whole-clause-sees : goal.returns-else-at_whole-clause-sees
unfolding look_of begins_below whole rule items statements expressions patterns types paths there_at shift passes is_silent begins in_mode from_start row one_of any_of no_longer longest is_longer
returns-else-at_whole-clause-sees c cond = starts-here field_front (saw-arm c.in-UNSAFE_KW.is (c.current.ensures.sees cond) and saw-before c.current.ensures.peeks.same (saw-so (c.at_whole.ensures.sees cond) c.if-at_whole.false) and nothing) refl

pub returns-else-at_whole-clause-peeks : goal.returns-else-at_whole-clause-peeks
returns-else-at_whole-clause-peeks c = peeks-within (peeks-then c.current.ensures.peeks (stays-peeks c.at_whole.ensures.same c.at_whole.ensures.stays)) (omega arith)

pub returns-in_default-clause-sees : goal.returns-in_default-clause-sees
unfolding look_of begins_below whole rule items statements expressions patterns types paths there_at shift passes is_silent begins in_mode from_start row one_of any_of no_longer longest is_longer
returns-in_default-clause-sees c cond = starts-here field_front (saw-not c.in_default.not-PUB_KW (c.current.ensures.sees cond) and saw-not c.in_default.not-POUND (c.current.ensures.sees cond) and saw-not c.in_default.not-IDENT (c.current.ensures.sees cond) and saw-not c.in_default.not-UNSAFE_KW (c.current.ensures.sees cond) and nothing) refl

pub returns-in_default-clause-peeks : goal.returns-in_default-clause-peeks
returns-in_default-clause-peeks c = peeks-within (c.current.ensures.peeks) (omega arith)
