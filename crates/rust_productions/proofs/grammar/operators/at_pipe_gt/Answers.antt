-- The `|` is marked as the first character of the operator, and a `>` touches it.
use Rattle.std.proofs.Common.{refl, arith}
use Rattle.parser_input.specs.declared.syntax_kind.SyntaxKind.TheVariants as variants
use Rattle.rust_grammar.specs.Rule.{there_at}
use Rattle.rust_productions.proofs.Facts.{saw-so}
use Rattle.rust_productions.proofs.Operators.{no-end}
use Rattle.rust_productions.proofs.Seen.{saw-before, saw-no-left}
use Rattle.rust_productions.proofs.Words.{saw-both}
use Rattle.rust_productions.proofs.Peeking.{stays-then}
use Rattle.rust_productions.proofs.grammar.operators.at_pipe_gt.Goals as goal

pub returns-then-not-at_contextual-clause-sees : goal.returns-then-not-at_contextual-clause-sees
unfolding there_at
returns-then-not-at_contextual-clause-sees c cond = saw-no-left (saw-so (c.at_contextual.ensures.sees cond) c.if-not-at_contextual.true)

pub returns-clause-sees : goal.returns-clause-sees
unfolding there_at
returns-clause-sees c cond = saw-both (saw-so (c.at_contextual.ensures.sees cond) c.if-not-at_contextual.false) (saw-both (c.requires cond) (saw-before c.at_contextual.ensures.same (c.at_joined.ensures.sees cond)))

pub returns-clause-some : goal.returns-clause-some
returns-clause-some c = λ is. omega (arith, c.at_contextual.ensures.stays.left, c.at_joined.ensures.some is (no-end variants.R_ANGLE refl))

pub returns-clause-peeks : goal.returns-clause-peeks
returns-clause-peeks c = stays-then c.at_contextual.ensures.same c.at_contextual.ensures.stays c.at_joined.ensures.peeks
