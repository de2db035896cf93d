-- The token after it tells which.
use Rattle.std.proofs.Common.{true, false, [], ◌∷◌, refl, arith}
use Rattle.parser_input.specs.Kind.{raw_of}
use Rattle.parser_input.specs.declared.syntax_kind.SyntaxKind.TheVariants as variants
use Rattle.rust_grammar.specs.Expressions.{expressions}
use Rattle.rust_grammar.specs.Items.{items}
use Rattle.rust_grammar.specs.Meaning.{begins_below, look_of}
use Rattle.rust_grammar.specs.Notation.{any_of, is_longer, no_longer, longest, one_of, row}
use Rattle.rust_grammar.specs.Paths.{paths}
use Rattle.rust_grammar.specs.Patterns.{patterns}
use Rattle.rust_grammar.specs.Rule.{Both, Joint, Kind, begins, in_mode, from_start, is_silent, passes, shift, there_at}
use Rattle.rust_grammar.specs.Statements.{statements}
use Rattle.rust_grammar.specs.Types.{types}
use Rattle.rust_grammar.specs.Whole.{rule, whole}
use Rattle.rust_productions.specs.Layers.{operators, operators_at}
use Rattle.rust_productions.proofs.Facts.{Answers, nothing, saw-so, ◌and◌}
use Rattle.rust_productions.proofs.Operators.{assigned-next, no-end, operator-next}
use Rattle.rust_productions.proofs.Seen.{saw-before, saw-left, saw-right}
use Rattle.rust_productions.proofs.Peeking.{peeks-then}
use Rattle.rust_productions.proofs.grammar.operators.after_ampersand.Goals as goal

pub returns-then-at_joined-clause-next : goal.returns-then-at_joined-clause-next
unfolding look_of begins_below whole rule items statements expressions patterns types paths there_at shift passes is_silent begins in_mode from_start row one_of any_of no_longer longest is_longer operators_at operators
returns-then-at_joined-clause-next c = operator-next 9 variants.AMP2 2 c.new.ensures (omega arith) (omega arith) (c.at_joined.ensures.some c.if-at_joined.true (no-end variants.AMP refl)) (λ d. c.requires.first d and (saw-left (saw-so (c.at_joined.ensures.sees d) c.if-at_joined.true) and (saw-right (saw-so (c.at_joined.ensures.sees d) c.if-at_joined.true) and nothing))) refl refl

pub returns-clause-next : goal.returns-clause-next
unfolding look_of begins_below whole rule items statements expressions patterns types paths there_at shift passes is_silent begins in_mode from_start row one_of any_of no_longer longest is_longer operators_at operators
returns-clause-next c =
    assigned-next (λ b. Answers (Kind 0 (raw_of variants.AMP)) true ∷ Answers (Both (Joint 0) (Kind 1 (raw_of variants.AMP))) false ∷ Answers (Both (Joint 0) (Kind 1 (raw_of variants.EQ))) b ∷ []) c.at_joined-assigned.result 5 variants.AMP variants.AMPEQ c.or_assignment.ensures c.new-2.ensures
    (omega arith) c.requires.some (λ is. omega (arith, c.at_joined.ensures.peeks.left, c.at_joined-assigned.ensures.some is (no-end variants.EQ refl)))
    (λ b is d. c.requires.first d and (saw-so (c.at_joined.ensures.sees d) c.if-at_joined.false and (saw-before c.at_joined.ensures.peeks.same (saw-so (c.at_joined-assigned.ensures.sees d) is) and nothing))) refl refl refl refl

pub returns-clause-peeks : goal.returns-clause-peeks
returns-clause-peeks c = peeks-then c.at_joined.ensures.peeks c.at_joined-assigned.ensures.peeks
