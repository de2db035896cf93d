-- Each path reads what the rule comes to there.
use Rattle.std.proofs.Common.{inl, inr, refl, arith}
use Rattle.rust_grammar.specs.Expressions.{expressions}
use Rattle.rust_grammar.specs.Items.{items}
use Rattle.rust_grammar.specs.Meaning.{begins_below, look_of}
use Rattle.rust_grammar.specs.Notation.{any_of, is_longer, no_longer, longest, one_of, row}
use Rattle.rust_grammar.specs.Paths.{paths}
use Rattle.rust_grammar.specs.Patterns.{patterns}
use Rattle.rust_grammar.specs.Rule.{begins, in_mode, from_start, is_silent, passes, shift, there_at}
use Rattle.rust_grammar.specs.Statements.{statements}
use Rattle.rust_grammar.specs.Types.{types}
use Rattle.rust_grammar.specs.Whole.{rule, whole}
use Rattle.rust_grammar.specs.Rule as rules
use Rattle.rust_productions.proofs.Facts.{nothing, saw-so, ◌and◌}
use Rattle.rust_productions.proofs.Looking.{left-arm, saw-arm, saw-not}
use Rattle.rust_productions.proofs.Seen.{begins-row, saw-before}
use Rattle.rust_productions.proofs.Peeking.{peeks-then, peeks-within}
use Rattle.rust_productions.proofs.grammar.patterns.at_pattern_field.Goals as goal

pub returns-then-at_new-clause-sees : goal.returns-then-at_new-clause-sees
unfolding look_of begins_below whole rule items statements expressions patterns types paths there_at shift passes is_silent begins in_mode from_start row one_of any_of no_longer longest is_longer
returns-then-at_new-clause-sees c cond = begins-row rules.pattern_field (saw-so (c.at_new.ensures.sees cond) c.if-at_new.true and nothing) refl

pub returns-then-at_new-clause-peeks : goal.returns-then-at_new-clause-peeks
returns-then-at_new-clause-peeks c = peeks-within (c.at_new.ensures.peeks) (omega arith)

pub returns-then-at_pair-clause-sees : goal.returns-then-at_pair-clause-sees
unfolding look_of begins_below whole rule items statements expressions patterns types paths there_at shift passes is_silent begins in_mode from_start row one_of any_of no_longer longest is_longer
returns-then-at_pair-clause-sees c cond = begins-row rules.pattern_field (saw-so (c.at_new.ensures.sees cond) c.if-at_new.false and saw-before c.at_new.ensures.peeks.same (saw-so (c.at_pair.ensures.sees cond) c.if-at_pair.true) and nothing) refl

pub returns-then-at_pair-clause-peeks : goal.returns-then-at_pair-clause-peeks
returns-then-at_pair-clause-peeks c = peeks-within (peeks-then c.at_new.ensures.peeks (c.at_pair.ensures.peeks)) (omega arith)

pub returns-then-at_named_field-clause-sees : goal.returns-then-at_named_field-clause-sees
unfolding look_of begins_below whole rule items statements expressions patterns types paths there_at shift passes is_silent begins in_mode from_start row one_of any_of no_longer longest is_longer
returns-then-at_named_field-clause-sees c cond = begins-row rules.pattern_field (saw-so (c.at_new.ensures.sees cond) c.if-at_new.false and saw-before c.at_new.ensures.peeks.same (saw-so (c.at_pair.ensures.sees cond) c.if-at_pair.false) and saw-before c.at_new.ensures.peeks.same (saw-before c.at_pair.ensures.peeks.same (saw-so (c.at_named_field.ensures.sees cond) c.if-at_named_field.true)) and nothing) refl

pub returns-then-at_named_field-clause-peeks : goal.returns-then-at_named_field-clause-peeks
returns-then-at_named_field-clause-peeks c = peeks-within (peeks-then c.at_new.ensures.peeks (peeks-then c.at_pair.ensures.peeks (c.at_named_field.ensures.peeks))) (omega arith)

pub returns-in-REF_KW-clause-sees : goal.returns-in-REF_KW-clause-sees
unfolding look_of begins_below whole rule items statements expressions patterns types paths there_at shift passes is_silent begins in_mode from_start row one_of any_of no_longer longest is_longer
returns-in-REF_KW-clause-sees c cond = elim c.in-REF_KW.is [ inl a0 ↦ begins-row rules.pattern_field (saw-so (c.at_new.ensures.sees cond) c.if-at_new.false and saw-before c.at_new.ensures.peeks.same (saw-so (c.at_pair.ensures.sees cond) c.if-at_pair.false) and saw-before c.at_new.ensures.peeks.same (saw-before c.at_pair.ensures.peeks.same (saw-so (c.at_named_field.ensures.sees cond) c.if-at_named_field.false)) and saw-before c.at_new.ensures.peeks.same (saw-before c.at_pair.ensures.peeks.same (saw-before c.at_named_field.ensures.peeks.same (left-arm a0 (c.current.ensures.end cond)))) and saw-before c.at_new.ensures.peeks.same (saw-before c.at_pair.ensures.peeks.same (saw-before c.at_named_field.ensures.peeks.same (saw-arm a0 (c.current.ensures.sees cond)))) and nothing) refl | inr b0 ↦ elim b0 [ inl a1 ↦ begins-row rules.pattern_field (saw-so (c.at_new.ensures.sees cond) c.if-at_new.false and saw-before c.at_new.ensures.peeks.same (saw-so (c.at_pair.ensures.sees cond) c.if-at_pair.false) and saw-before c.at_new.ensures.peeks.same (saw-before c.at_pair.ensures.peeks.same (saw-so (c.at_named_field.ensures.sees cond) c.if-at_named_field.false)) and saw-before c.at_new.ensures.peeks.same (saw-before c.at_pair.ensures.peeks.same (saw-before c.at_named_field.ensures.peeks.same (left-arm a1 (c.current.ensures.end cond)))) and saw-before c.at_new.ensures.peeks.same (saw-before c.at_pair.ensures.peeks.same (saw-before c.at_named_field.ensures.peeks.same (saw-arm a1 (c.current.ensures.sees cond)))) and nothing) refl | inr b1 ↦ begins-row rules.pattern_field (saw-so (c.at_new.ensures.sees cond) c.if-at_new.false and saw-before c.at_new.ensures.peeks.same (saw-so (c.at_pair.ensures.sees cond) c.if-at_pair.false) and saw-before c.at_new.ensures.peeks.same (saw-before c.at_pair.ensures.peeks.same (saw-so (c.at_named_field.ensures.sees cond) c.if-at_named_field.false)) and saw-before c.at_new.ensures.peeks.same (saw-before c.at_pair.ensures.peeks.same (saw-before c.at_named_field.ensures.peeks.same (left-arm b1 (c.current.ensures.end cond)))) and saw-before c.at_new.ensures.peeks.same (saw-before c.at_pair.ensures.peeks.same (saw-before c.at_named_field.ensures.peeks.same (saw-arm b1 (c.current.ensures.sees cond)))) and nothing) refl ] ]

pub returns-in-REF_KW-clause-peeks : goal.returns-in-REF_KW-clause-peeks
returns-in-REF_KW-clause-peeks c = peeks-within (peeks-then c.at_new.ensures.peeks (peeks-then c.at_pair.ensures.peeks (peeks-then c.at_named_field.ensures.peeks (c.current.ensures.peeks)))) (omega arith)

pub returns-in_default-clause-sees : goal.returns-in_default-clause-sees
unfolding look_of begins_below whole rule items statements expressions patterns types paths there_at shift passes is_silent begins in_mode from_start row one_of any_of no_longer longest is_longer
returns-in_default-clause-sees c cond = begins-row rules.pattern_field (saw-so (c.at_new.ensures.sees cond) c.if-at_new.false and saw-before c.at_new.ensures.peeks.same (saw-so (c.at_pair.ensures.sees cond) c.if-at_pair.false) and saw-before c.at_new.ensures.peeks.same (saw-before c.at_pair.ensures.peeks.same (saw-so (c.at_named_field.ensures.sees cond) c.if-at_named_field.false)) and saw-before c.at_new.ensures.peeks.same (saw-before c.at_pair.ensures.peeks.same (saw-before c.at_named_field.ensures.peeks.same (saw-not c.in_default.not-REF_KW (c.current.ensures.sees cond)))) and saw-before c.at_new.ensures.peeks.same (saw-before c.at_pair.ensures.peeks.same (saw-before c.at_named_field.ensures.peeks.same (saw-not c.in_default.not-MUT_KW (c.current.ensures.sees cond)))) and saw-before c.at_new.ensures.peeks.same (saw-before c.at_pair.ensures.peeks.same (saw-before c.at_named_field.ensures.peeks.same (saw-not c.in_default.not-IDENT (c.current.ensures.sees cond)))) and nothing) refl

pub returns-in_default-clause-peeks : goal.returns-in_default-clause-peeks
returns-in_default-clause-peeks c = peeks-within (peeks-then c.at_new.ensures.peeks (peeks-then c.at_pair.ensures.peeks (peeks-then c.at_named_field.ensures.peeks (c.current.ensures.peeks)))) (omega arith)
