-- Each path reads what the rule comes to there.
use Rattle.std.proofs.Common.{inl, inr, refl}
use Rattle.rust_grammar.specs.Expressions.{expressions}
use Rattle.rust_grammar.specs.Items.{items}
use Rattle.rust_grammar.specs.Meaning.{begins_below, look_of}
use Rattle.rust_grammar.specs.Notation.{any_of, is_longer, no_longer, longest, one_of, row}
use Rattle.rust_grammar.specs.Paths.{paths}
use Rattle.rust_grammar.specs.Patterns.{patterns}
use Rattle.rust_grammar.specs.Rule.{begins, in_mode, from_start, is_silent, passes, shift, there_at}
use Rattle.rust_grammar.specs.Statements.{statements}
use Rattle.rust_grammar.specs.Types.{types}
use Rattle.rust_grammar.specs.Whole.{rule, whole}
use Rattle.rust_productions.proofs.Facts.{nothing, saw-so, ◌and◌}
use Rattle.rust_productions.proofs.Looking.{left-arm, saw-arm, saw-not}
use Rattle.rust_productions.proofs.Seen.{saw-before, saw-told}
use Rattle.rust_productions.proofs.Peeking.{peeks-then}
use Rattle.rust_productions.proofs.grammar.patterns.at_named_field.Goals as goal

pub returns-then-not-at_second-clause-sees : goal.returns-then-not-at_second-clause-sees
unfolding look_of begins_below whole rule items statements expressions patterns types paths there_at shift passes is_silent begins in_mode from_start row one_of any_of no_longer longest is_longer
returns-then-not-at_second-clause-sees c cond = saw-told (saw-so (c.at_second.ensures.sees cond) c.if-not-at_second.true and nothing) refl

pub returns-in-IDENT-clause-sees : goal.returns-in-IDENT-clause-sees
unfolding look_of begins_below whole rule items statements expressions patterns types paths there_at shift passes is_silent begins in_mode from_start row one_of any_of no_longer longest is_longer
returns-in-IDENT-clause-sees c cond = elim c.in-IDENT.is [ inl a0 ↦ saw-told (saw-so (c.at_second.ensures.sees cond) c.if-not-at_second.false and saw-before c.at_second.ensures.peeks.same (left-arm a0 (c.current.ensures.end cond)) and saw-before c.at_second.ensures.peeks.same (saw-arm a0 (c.current.ensures.sees cond)) and nothing) refl | inr b0 ↦ saw-told (saw-so (c.at_second.ensures.sees cond) c.if-not-at_second.false and saw-before c.at_second.ensures.peeks.same (left-arm b0 (c.current.ensures.end cond)) and saw-before c.at_second.ensures.peeks.same (saw-arm b0 (c.current.ensures.sees cond)) and nothing) refl ]

pub returns-in-IDENT-clause-peeks : goal.returns-in-IDENT-clause-peeks
returns-in-IDENT-clause-peeks c = peeks-then c.at_second.ensures.peeks c.current.ensures.peeks

pub returns-in_default-clause-sees : goal.returns-in_default-clause-sees
unfolding look_of begins_below whole rule items statements expressions patterns types paths there_at shift passes is_silent begins in_mode from_start row one_of any_of no_longer longest is_longer
returns-in_default-clause-sees c cond = saw-told (saw-so (c.at_second.ensures.sees cond) c.if-not-at_second.false and saw-before c.at_second.ensures.peeks.same (saw-not c.in_default.not-IDENT (c.current.ensures.sees cond)) and saw-before c.at_second.ensures.peeks.same (saw-not c.in_default.not-INT_NUMBER (c.current.ensures.sees cond)) and nothing) refl

pub returns-in_default-clause-peeks : goal.returns-in_default-clause-peeks
returns-in_default-clause-peeks c = peeks-then c.at_second.ensures.peeks c.current.ensures.peeks
