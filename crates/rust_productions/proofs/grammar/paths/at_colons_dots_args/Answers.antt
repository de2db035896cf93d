-- Each path reads what the rule comes to there.
use Rattle.std.proofs.Common.{inl, inr, refl, arith}
use Rattle.rust_grammar.specs.Expressions.{expressions}
use Rattle.rust_grammar.specs.Items.{items}
use Rattle.rust_grammar.specs.Meaning.{begins_below, look_of}
use Rattle.rust_grammar.specs.Notation.{any_of, is_longer, no_longer, longest, one_of, row}
use Rattle.rust_grammar.specs.Paths.{paths}
use Rattle.rust_grammar.specs.Patterns.{patterns}
use Rattle.rust_grammar.specs.Rule.{begins, in_mode, from_start, is_silent, passes, shift, there_at}
use Rattle.rust_grammar.specs.Statements.{statements}
use Rattle.rust_grammar.specs.Types.{types}
use Rattle.rust_grammar.specs.Whole.{rule, whole}
use Rattle.rust_grammar.specs.Rule as rules
use Rattle.rust_productions.proofs.Facts.{nothing, saw-so, ◌and◌}
use Rattle.rust_productions.proofs.Seen.{saw-before, saw-told}
use Rattle.rust_productions.proofs.Peeking.{peeks-then, peeks-within}
use Rattle.rust_productions.proofs.grammar.paths.at_colons_dots_args.Goals as goal

pub returns-then-not-at_colons-clause-sees : goal.returns-then-not-at_colons-clause-sees
unfolding look_of begins_below whole rule items statements expressions patterns types paths there_at shift passes is_silent begins in_mode from_start row one_of any_of no_longer longest is_longer
returns-then-not-at_colons-clause-sees c cond = saw-told (saw-so (c.at_colons.ensures.sees cond) c.if-not-at_colons.true and nothing) refl

pub returns-then-not-at_colons-clause-peeks : goal.returns-then-not-at_colons-clause-peeks
returns-then-not-at_colons-clause-peeks c = peeks-within (c.at_colons.ensures.peeks) (omega arith)

pub returns-then-not-at_third-clause-sees : goal.returns-then-not-at_third-clause-sees
unfolding look_of begins_below whole rule items statements expressions patterns types paths there_at shift passes is_silent begins in_mode from_start row one_of any_of no_longer longest is_longer
returns-then-not-at_third-clause-sees c cond = saw-told (saw-so (c.at_colons.ensures.sees cond) c.if-not-at_colons.false and saw-before c.at_colons.ensures.peeks.same (saw-so (c.at_third.ensures.sees cond) c.if-not-at_third.true) and nothing) refl

pub returns-then-not-at_third-clause-peeks : goal.returns-then-not-at_third-clause-peeks
returns-then-not-at_third-clause-peeks c = peeks-within (peeks-then c.at_colons.ensures.peeks (c.at_third.ensures.peeks)) (omega arith)

pub returns-then-not-at_fourth_pair-clause-sees : goal.returns-then-not-at_fourth_pair-clause-sees
unfolding look_of begins_below whole rule items statements expressions patterns types paths there_at shift passes is_silent begins in_mode from_start row one_of any_of no_longer longest is_longer
returns-then-not-at_fourth_pair-clause-sees c cond = saw-told (saw-so (c.at_colons.ensures.sees cond) c.if-not-at_colons.false and saw-before c.at_colons.ensures.peeks.same (saw-so (c.at_third.ensures.sees cond) c.if-not-at_third.false) and saw-before c.at_colons.ensures.peeks.same (saw-before c.at_third.ensures.peeks.same (saw-so (c.at_fourth_pair.ensures.sees cond) c.if-not-at_fourth_pair.true)) and nothing) refl

pub returns-then-not-at_fourth_pair-clause-peeks : goal.returns-then-not-at_fourth_pair-clause-peeks
returns-then-not-at_fourth_pair-clause-peeks c = peeks-within (peeks-then c.at_colons.ensures.peeks (peeks-then c.at_third.ensures.peeks (c.at_fourth_pair.ensures.peeks))) (omega arith)

pub returns-clause-sees : goal.returns-clause-sees
unfolding look_of begins_below whole rule items statements expressions patterns types paths there_at shift passes is_silent begins in_mode from_start row one_of any_of no_longer longest is_longer
returns-clause-sees c cond = saw-told (saw-so (c.at_colons.ensures.sees cond) c.if-not-at_colons.false and saw-before c.at_colons.ensures.peeks.same (saw-so (c.at_third.ensures.sees cond) c.if-not-at_third.false) and saw-before c.at_colons.ensures.peeks.same (saw-before c.at_third.ensures.peeks.same (saw-so (c.at_fourth_pair.ensures.sees cond) c.if-not-at_fourth_pair.false)) and nothing) refl

pub returns-clause-peeks : goal.returns-clause-peeks
returns-clause-peeks c = peeks-within (peeks-then c.at_colons.ensures.peeks (peeks-then c.at_third.ensures.peeks (c.at_fourth_pair.ensures.peeks))) (omega arith)
