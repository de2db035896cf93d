-- Each path reads what the rule comes to there.
use Rattle.std.proofs.Common.{inl, inr, refl, arith}
use Rattle.rust_grammar.specs.Expressions.{expressions}
use Rattle.rust_grammar.specs.Items.{items}
use Rattle.rust_grammar.specs.Meaning.{begins_below, look_of}
use Rattle.rust_grammar.specs.Notation.{any_of, is_longer, no_longer, longest, one_of, row}
use Rattle.rust_grammar.specs.Paths.{paths}
use Rattle.rust_grammar.specs.Patterns.{patterns}
use Rattle.rust_grammar.specs.Rule.{begins, in_mode, from_start, is_silent, passes, shift, there_at}
use Rattle.rust_grammar.specs.Statements.{statements}
use Rattle.rust_grammar.specs.Types.{types}
use Rattle.rust_grammar.specs.Whole.{rule, whole}
use Rattle.rust_productions.proofs.Facts.{nothing, saw-so, ◌and◌}
use Rattle.rust_productions.proofs.Looking.{saw-arm, saw-not}
use Rattle.rust_productions.proofs.Seen.{saw-before, saw-told}
use Rattle.rust_productions.proofs.Peeking.{peeks-then, peeks-within}
use Rattle.rust_productions.proofs.grammar.visibility.at_scope.Goals as goal

pub returns-then-not-at-clause-sees : goal.returns-then-not-at-clause-sees
unfolding look_of begins_below whole rule items statements expressions patterns types paths there_at shift passes is_silent begins in_mode from_start row one_of any_of no_longer longest is_longer
returns-then-not-at-clause-sees c cond = saw-told (saw-so (c.at.ensures.sees cond) c.if-not-at.true and nothing) refl

pub returns-then-at_second-clause-sees : goal.returns-then-at_second-clause-sees
unfolding look_of begins_below whole rule items statements expressions patterns types paths there_at shift passes is_silent begins in_mode from_start row one_of any_of no_longer longest is_longer
returns-then-at_second-clause-sees c cond = saw-told (saw-so (c.at.ensures.sees cond) c.if-not-at.false and saw-before c.at.ensures.peeks.same (saw-so (c.at_second.ensures.sees cond) c.if-at_second.true) and nothing) refl

pub returns-then-at_second-clause-peeks : goal.returns-then-at_second-clause-peeks
returns-then-at_second-clause-peeks c = peeks-within (peeks-then c.at.ensures.peeks c.at_second.ensures.peeks) (omega arith)

pub returns-then-not-at_third-clause-sees : goal.returns-then-not-at_third-clause-sees
unfolding look_of begins_below whole rule items statements expressions patterns types paths there_at shift passes is_silent begins in_mode from_start row one_of any_of no_longer longest is_longer
returns-then-not-at_third-clause-sees c cond = saw-told (saw-so (c.at.ensures.sees cond) c.if-not-at.false and saw-before c.at.ensures.peeks.same (saw-so (c.at_second.ensures.sees cond) c.if-at_second.false) and saw-before c.at.ensures.peeks.same (saw-before c.at_second.ensures.peeks.same (saw-so (c.at_third.ensures.sees cond) c.if-not-at_third.true)) and nothing) refl

pub returns-then-not-at_third-clause-peeks : goal.returns-then-not-at_third-clause-peeks
returns-then-not-at_third-clause-peeks c = peeks-within (peeks-then c.at.ensures.peeks (peeks-then c.at_second.ensures.peeks c.at_third.ensures.peeks)) (omega arith)

pub returns-in-CRATE_KW-clause-sees : goal.returns-in-CRATE_KW-clause-sees
unfolding look_of begins_below whole rule items statements expressions patterns types paths there_at shift passes is_silent begins in_mode from_start row one_of any_of no_longer longest is_longer
returns-in-CRATE_KW-clause-sees c cond = elim c.in-CRATE_KW.is [ inl a0 ↦ saw-told (saw-so (c.at.ensures.sees cond) c.if-not-at.false and saw-before c.at.ensures.peeks.same (saw-so (c.at_second.ensures.sees cond) c.if-at_second.false) and saw-before c.at.ensures.peeks.same (saw-before c.at_second.ensures.peeks.same (saw-so (c.at_third.ensures.sees cond) c.if-not-at_third.false)) and saw-before c.at.ensures.peeks.same (saw-before c.at_second.ensures.peeks.same (saw-before c.at_third.ensures.peeks.same (saw-arm a0 (c.nth.ensures.sees cond)))) and nothing) refl | inr b0 ↦ elim b0 [ inl a1 ↦ saw-told (saw-so (c.at.ensures.sees cond) c.if-not-at.false and saw-before c.at.ensures.peeks.same (saw-so (c.at_second.ensures.sees cond) c.if-at_second.false) and saw-before c.at.ensures.peeks.same (saw-before c.at_second.ensures.peeks.same (saw-so (c.at_third.ensures.sees cond) c.if-not-at_third.false)) and saw-before c.at.ensures.peeks.same (saw-before c.at_second.ensures.peeks.same (saw-before c.at_third.ensures.peeks.same (saw-arm a1 (c.nth.ensures.sees cond)))) and nothing) refl | inr b1 ↦ saw-told (saw-so (c.at.ensures.sees cond) c.if-not-at.false and saw-before c.at.ensures.peeks.same (saw-so (c.at_second.ensures.sees cond) c.if-at_second.false) and saw-before c.at.ensures.peeks.same (saw-before c.at_second.ensures.peeks.same (saw-so (c.at_third.ensures.sees cond) c.if-not-at_third.false)) and saw-before c.at.ensures.peeks.same (saw-before c.at_second.ensures.peeks.same (saw-before c.at_third.ensures.peeks.same (saw-arm b1 (c.nth.ensures.sees cond)))) and nothing) refl ] ]

pub returns-in-CRATE_KW-clause-peeks : goal.returns-in-CRATE_KW-clause-peeks
returns-in-CRATE_KW-clause-peeks c = peeks-then c.at.ensures.peeks (peeks-then c.at_second.ensures.peeks (peeks-then c.at_third.ensures.peeks c.nth.ensures.peeks))

pub returns-in_default-clause-sees : goal.returns-in_default-clause-sees
unfolding look_of begins_below whole rule items statements expressions patterns types paths there_at shift passes is_silent begins in_mode from_start row one_of any_of no_longer longest is_longer
returns-in_default-clause-sees c cond = saw-told (saw-so (c.at.ensures.sees cond) c.if-not-at.false and saw-before c.at.ensures.peeks.same (saw-so (c.at_second.ensures.sees cond) c.if-at_second.false) and saw-before c.at.ensures.peeks.same (saw-before c.at_second.ensures.peeks.same (saw-so (c.at_third.ensures.sees cond) c.if-not-at_third.false)) and saw-before c.at.ensures.peeks.same (saw-before c.at_second.ensures.peeks.same (saw-before c.at_third.ensures.peeks.same (saw-not c.in_default.not-CRATE_KW (c.nth.ensures.sees cond)))) and saw-before c.at.ensures.peeks.same (saw-before c.at_second.ensures.peeks.same (saw-before c.at_third.ensures.peeks.same (saw-not c.in_default.not-SELF_KW (c.nth.ensures.sees cond)))) and saw-before c.at.ensures.peeks.same (saw-before c.at_second.ensures.peeks.same (saw-before c.at_third.ensures.peeks.same (saw-not c.in_default.not-SUPER_KW (c.nth.ensures.sees cond)))) and nothing) refl

pub returns-in_default-clause-peeks : goal.returns-in_default-clause-peeks
returns-in_default-clause-peeks c = peeks-then c.at.ensures.peeks (peeks-then c.at_second.ensures.peeks (peeks-then c.at_third.ensures.peeks c.nth.ensures.peeks))
