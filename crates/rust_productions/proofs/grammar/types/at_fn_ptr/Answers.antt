-- Each path reads what the rule comes to there.
use Rattle.std.proofs.Common.{inl, inr, refl, arith}
use Rattle.rust_grammar.specs.Expressions.{expressions}
use Rattle.rust_grammar.specs.Items.{items}
use Rattle.rust_grammar.specs.Meaning.{begins_below, look_of}
use Rattle.rust_grammar.specs.Notation.{any_of, is_longer, no_longer, longest, one_of, row}
use Rattle.rust_grammar.specs.Paths.{paths}
use Rattle.rust_grammar.specs.Patterns.{patterns}
use Rattle.rust_grammar.specs.Rule.{begins, in_mode, from_start, is_silent, passes, shift, there_at}
use Rattle.rust_grammar.specs.Statements.{statements}
use Rattle.rust_grammar.specs.Types.{types}
use Rattle.rust_grammar.specs.Whole.{rule, whole}
use Rattle.rust_grammar.specs.Rule as rules
use Rattle.rust_productions.proofs.Facts.{nothing, saw-so, ◌and◌}
use Rattle.rust_productions.proofs.Looking.{saw-arm, saw-not}
use Rattle.rust_productions.proofs.Seen.{saw-before, saw-told}
use Rattle.rust_productions.proofs.Peeking.{peeks-then, peeks-within}
use Rattle.rust_productions.proofs.grammar.types.at_fn_ptr.Goals as goal

pub returns-in-FN_KW-clause-sees : goal.returns-in-FN_KW-clause-sees
unfolding look_of begins_below whole rule items statements expressions patterns types paths there_at shift passes is_silent begins in_mode from_start row one_of any_of no_longer longest is_longer
returns-in-FN_KW-clause-sees c cond = elim c.in-FN_KW.is [ inl a0 ↦ saw-told (saw-arm a0 (c.current.ensures.sees cond) and nothing) refl | inr b0 ↦ saw-told (saw-arm b0 (c.current.ensures.sees cond) and nothing) refl ]

pub returns-in-FN_KW-clause-peeks : goal.returns-in-FN_KW-clause-peeks
returns-in-FN_KW-clause-peeks c = peeks-within (c.current.ensures.peeks) (omega arith)

pub returns-then-at_second-clause-sees : goal.returns-then-at_second-clause-sees
unfolding look_of begins_below whole rule items statements expressions patterns types paths there_at shift passes is_silent begins in_mode from_start row one_of any_of no_longer longest is_longer
returns-then-at_second-clause-sees c cond = saw-told (saw-arm c.in-UNSAFE_KW.is (c.current.ensures.sees cond) and saw-before c.current.ensures.peeks.same (saw-so (c.at_second.ensures.sees cond) c.if-at_second.true) and nothing) refl

pub returns-then-at_second-clause-peeks : goal.returns-then-at_second-clause-peeks
returns-then-at_second-clause-peeks c = peeks-within (peeks-then c.current.ensures.peeks (c.at_second.ensures.peeks)) (omega arith)

pub returns-then-at_second-2-clause-sees : goal.returns-then-at_second-2-clause-sees
unfolding look_of begins_below whole rule items statements expressions patterns types paths there_at shift passes is_silent begins in_mode from_start row one_of any_of no_longer longest is_longer
returns-then-at_second-2-clause-sees c cond = saw-told (saw-arm c.in-UNSAFE_KW.is (c.current.ensures.sees cond) and saw-before c.current.ensures.peeks.same (saw-so (c.at_second.ensures.sees cond) c.if-at_second.false) and saw-before c.current.ensures.peeks.same (saw-before c.at_second.ensures.peeks.same (saw-so (c.at_second-in-UNSAFE_KW.ensures.sees cond) c.if-at_second-2.true)) and nothing) refl

pub returns-then-at_second-2-clause-peeks : goal.returns-then-at_second-2-clause-peeks
returns-then-at_second-2-clause-peeks c = peeks-within (peeks-then c.current.ensures.peeks (peeks-then c.at_second.ensures.peeks (c.at_second-in-UNSAFE_KW.ensures.peeks))) (omega arith)

pub returns-else-at_second-2-clause-sees : goal.returns-else-at_second-2-clause-sees
unfolding look_of begins_below whole rule items statements expressions patterns types paths there_at shift passes is_silent begins in_mode from_start row one_of any_of no_longer longest is_longer
returns-else-at_second-2-clause-sees c cond = saw-told (saw-arm c.in-UNSAFE_KW.is (c.current.ensures.sees cond) and saw-before c.current.ensures.peeks.same (saw-so (c.at_second.ensures.sees cond) c.if-at_second.false) and saw-before c.current.ensures.peeks.same (saw-before c.at_second.ensures.peeks.same (saw-so (c.at_second-in-UNSAFE_KW.ensures.sees cond) c.if-at_second-2.false)) and nothing) refl

pub returns-else-at_second-2-clause-peeks : goal.returns-else-at_second-2-clause-peeks
returns-else-at_second-2-clause-peeks c = peeks-within (peeks-then c.current.ensures.peeks (peeks-then c.at_second.ensures.peeks (c.at_second-in-UNSAFE_KW.ensures.peeks))) (omega arith)

pub returns-in_default-clause-sees : goal.returns-in_default-clause-sees
unfolding look_of begins_below whole rule items statements expressions patterns types paths there_at shift passes is_silent begins in_mode from_start row one_of any_of no_longer longest is_longer
returns-in_default-clause-sees c cond = saw-told (saw-not c.in_default.not-FN_KW (c.current.ensures.sees cond) and saw-not c.in_default.not-EXTERN_KW (c.current.ensures.sees cond) and saw-not c.in_default.not-UNSAFE_KW (c.current.ensures.sees cond) and nothing) refl

pub returns-in_default-clause-peeks : goal.returns-in_default-clause-peeks
returns-in_default-clause-peeks c = peeks-within (c.current.ensures.peeks) (omega arith)
