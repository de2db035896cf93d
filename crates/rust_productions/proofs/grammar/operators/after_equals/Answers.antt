-- The token after it tells which.
use Rattle.std.proofs.Common.{refl, arith}
use Rattle.parser_input.specs.declared.syntax_kind.SyntaxKind.TheVariants as variants
use Rattle.rust_grammar.specs.Expressions.{expressions}
use Rattle.rust_grammar.specs.Items.{items}
use Rattle.rust_grammar.specs.Meaning.{begins_below, look_of}
use Rattle.rust_grammar.specs.Notation.{any_of, is_longer, no_longer, longest, one_of, row}
use Rattle.rust_grammar.specs.Paths.{paths}
use Rattle.rust_grammar.specs.Patterns.{patterns}
use Rattle.rust_grammar.specs.Rule.{begins, in_mode, from_start, is_silent, passes, shift, there_at}
use Rattle.rust_grammar.specs.Statements.{statements}
use Rattle.rust_grammar.specs.Types.{types}
use Rattle.rust_grammar.specs.Whole.{rule, whole}
use Rattle.rust_productions.specs.Layers.{operators, operators_at}
use Rattle.rust_productions.proofs.Facts.{nothing, saw-so, ◌and◌}
use Rattle.rust_productions.proofs.Operators.{no-end, none-next, operator-next}
use Rattle.rust_productions.proofs.Seen.{saw-before}
use Rattle.rust_productions.proofs.Peeking.{peeks-then}
use Rattle.rust_productions.proofs.grammar.operators.after_equals.Goals as goal

pub returns-then-at_joined-clause-next : goal.returns-then-at_joined-clause-next
unfolding look_of begins_below whole rule items statements expressions patterns types paths there_at shift passes is_silent begins in_mode from_start row one_of any_of no_longer longest is_longer operators_at operators
returns-then-at_joined-clause-next c = operator-next 8 variants.EQ2 2 c.new.ensures (omega arith) (omega arith) (c.at_joined.ensures.some c.if-at_joined.true (no-end variants.EQ refl)) (λ d. c.requires.first d and (saw-so (c.at_joined.ensures.sees d) c.if-at_joined.true and nothing)) refl refl

pub returns-then-at_joined-2-clause-next : goal.returns-then-at_joined-2-clause-next
unfolding look_of begins_below whole rule items statements expressions patterns types paths there_at shift passes is_silent begins in_mode from_start row one_of any_of no_longer longest is_longer operators_at operators
returns-then-at_joined-2-clause-next c = none-next c.none.ensures (λ d. c.requires.first d and (saw-so (c.at_joined.ensures.sees d) c.if-at_joined.false and (saw-before c.at_joined.ensures.peeks.same (saw-so (c.at_joined-2.ensures.sees d) c.if-at_joined-2.true) and nothing))) refl

pub returns-then-at_joined-2-clause-peeks : goal.returns-then-at_joined-2-clause-peeks
returns-then-at_joined-2-clause-peeks c = peeks-then c.at_joined.ensures.peeks c.at_joined-2.ensures.peeks

pub returns-clause-next : goal.returns-clause-next
unfolding look_of begins_below whole rule items statements expressions patterns types paths there_at shift passes is_silent begins in_mode from_start row one_of any_of no_longer longest is_longer operators_at operators
returns-clause-next c = operator-next 12 variants.EQ 1 c.new-2.ensures (omega arith) (omega arith) c.requires.some (λ d. c.requires.first d and (saw-so (c.at_joined.ensures.sees d) c.if-at_joined.false and (saw-before c.at_joined.ensures.peeks.same (saw-so (c.at_joined-2.ensures.sees d) c.if-at_joined-2.false) and nothing))) refl refl

pub returns-clause-peeks : goal.returns-clause-peeks
returns-clause-peeks c = peeks-then c.at_joined.ensures.peeks c.at_joined-2.ensures.peeks
