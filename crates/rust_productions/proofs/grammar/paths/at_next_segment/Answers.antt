-- Each path reads what the rule comes to there.
use Rattle.std.proofs.Common.{inl, inr, refl}
use Rattle.rust_grammar.specs.Expressions.{expressions}
use Rattle.rust_grammar.specs.Items.{items}
use Rattle.rust_grammar.specs.Meaning.{begins_below, look_of}
use Rattle.rust_grammar.specs.Notation.{any_of, is_longer, no_longer, longest, one_of, row}
use Rattle.rust_grammar.specs.Paths.{paths}
use Rattle.rust_grammar.specs.Patterns.{patterns}
use Rattle.rust_grammar.specs.Rule.{begins, in_mode, from_start, is_silent, passes, shift, there_at}
use Rattle.rust_grammar.specs.Statements.{statements}
use Rattle.rust_grammar.specs.Types.{types}
use Rattle.rust_grammar.specs.Whole.{rule, whole}
use Rattle.rust_productions.proofs.Facts.{nothing, saw-so, ◌and◌}
use Rattle.rust_productions.proofs.Looking.{saw-arm, saw-not}
use Rattle.rust_productions.proofs.Seen.{saw-before, saw-told}
use Rattle.rust_productions.proofs.Peeking.{peeks-then}
use Rattle.rust_productions.proofs.grammar.paths.at_next_segment.Goals as goal

pub returns-then-not-at_colons-clause-sees : goal.returns-then-not-at_colons-clause-sees
unfolding look_of begins_below whole rule items statements expressions patterns types paths there_at shift passes is_silent begins in_mode from_start row one_of any_of no_longer longest is_longer
returns-then-not-at_colons-clause-sees c cond = saw-told (saw-so (c.at_colons.ensures.sees cond) c.if-not-at_colons.true and nothing) refl

pub returns-in-STAR-clause-sees : goal.returns-in-STAR-clause-sees
unfolding look_of begins_below whole rule items statements expressions patterns types paths there_at shift passes is_silent begins in_mode from_start row one_of any_of no_longer longest is_longer
returns-in-STAR-clause-sees c cond = elim c.in-STAR.is [ inl a0 ↦ saw-told (saw-so (c.at_colons.ensures.sees cond) c.if-not-at_colons.false and saw-before c.at_colons.ensures.peeks.same (saw-arm a0 (c.nth.ensures.sees cond)) and nothing) refl | inr b0 ↦ saw-told (saw-so (c.at_colons.ensures.sees cond) c.if-not-at_colons.false and saw-before c.at_colons.ensures.peeks.same (saw-arm b0 (c.nth.ensures.sees cond)) and nothing) refl ]

pub returns-in-STAR-clause-peeks : goal.returns-in-STAR-clause-peeks
returns-in-STAR-clause-peeks c = peeks-then c.at_colons.ensures.peeks c.nth.ensures.peeks

pub returns-in_default-clause-sees : goal.returns-in_default-clause-sees
unfolding look_of begins_below whole rule items statements expressions patterns types paths there_at shift passes is_silent begins in_mode from_start row one_of any_of no_longer longest is_longer
returns-in_default-clause-sees c cond = saw-told (saw-so (c.at_colons.ensures.sees cond) c.if-not-at_colons.false and saw-before c.at_colons.ensures.peeks.same (saw-not c.in_default.not-STAR (c.nth.ensures.sees cond)) and saw-before c.at_colons.ensures.peeks.same (saw-not c.in_default.not-L_CURLY (c.nth.ensures.sees cond)) and nothing) refl

pub returns-in_default-clause-peeks : goal.returns-in_default-clause-peeks
returns-in_default-clause-peeks c = peeks-then c.at_colons.ensures.peeks c.nth.ensures.peeks
