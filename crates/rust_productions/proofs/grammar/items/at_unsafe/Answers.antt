-- Each path sees what the look asks.
use Rattle.std.proofs.Common.{arith}
use Rattle.rust_grammar.specs.Expressions.{expressions}
use Rattle.rust_grammar.specs.Items.{items}
use Rattle.rust_grammar.specs.Meaning.{begins_below, look_of}
use Rattle.rust_grammar.specs.Notation.{any_of, is_longer, no_longer, longest, one_of, row}
use Rattle.rust_grammar.specs.Paths.{paths}
use Rattle.rust_grammar.specs.Patterns.{patterns}
use Rattle.rust_grammar.specs.Rule.{begins, in_mode, from_start, is_silent, passes, shift, there_at}
use Rattle.rust_grammar.specs.Statements.{statements}
use Rattle.rust_grammar.specs.Types.{types}
use Rattle.rust_grammar.specs.Whole.{rule, whole}
use Rattle.rust_productions.proofs.Facts.{saw-so}
use Rattle.rust_productions.proofs.Seen.{saw-always, saw-before, saw-either-left, saw-either-right, saw-no-left}
use Rattle.rust_productions.proofs.Words.{saw-both}
use Rattle.rust_productions.proofs.Peeking.{peeks-then, peeks-within}
use Rattle.rust_productions.proofs.grammar.items.at_unsafe.Goals as goal

pub returns-then-at-clause-sees : goal.returns-then-at-clause-sees
unfolding look_of begins_below whole rule items statements expressions patterns types paths there_at shift passes is_silent begins in_mode from_start row one_of any_of no_longer longest is_longer
returns-then-at-clause-sees c cond = saw-either-left (saw-always (saw-so (c.at.ensures.sees cond) c.if-at.true))

pub returns-then-not-at-clause-sees : goal.returns-then-not-at-clause-sees
unfolding look_of begins_below whole rule items statements expressions patterns types paths there_at shift passes is_silent begins in_mode from_start row one_of any_of no_longer longest is_longer
returns-then-not-at-clause-sees c cond = saw-either-right (saw-always (saw-so (c.at.ensures.sees cond) c.if-at.false)) (saw-no-left (saw-before c.at.ensures.peeks.same (saw-so (c.at-2.ensures.sees cond) c.if-not-at.true)))

pub returns-then-not-at-clause-peeks : goal.returns-then-not-at-clause-peeks
returns-then-not-at-clause-peeks c = peeks-within (peeks-then c.at.ensures.peeks c.at-2.ensures.peeks) (omega arith)

pub returns-clause-sees : goal.returns-clause-sees
unfolding look_of begins_below whole rule items statements expressions patterns types paths there_at shift passes is_silent begins in_mode from_start row one_of any_of no_longer longest is_longer
returns-clause-sees c cond = saw-either-right (saw-always (saw-so (c.at.ensures.sees cond) c.if-at.false)) (saw-both (saw-before c.at.ensures.peeks.same (saw-so (c.at-2.ensures.sees cond) c.if-not-at.false)) (saw-always (saw-before c.at.ensures.peeks.same (saw-before c.at-2.ensures.peeks.same (c.at_second.ensures.sees cond)))))

pub returns-clause-peeks : goal.returns-clause-peeks
returns-clause-peeks c = peeks-then c.at.ensures.peeks (peeks-then c.at-2.ensures.peeks c.at_second.ensures.peeks)

pub returns-clause-some : goal.returns-clause-some
returns-clause-some c = λ e f. omega (arith, c.at.ensures.peeks.left, c.at-2.ensures.some c.if-not-at.false (λ g. absurd (omega (arith, g))))
