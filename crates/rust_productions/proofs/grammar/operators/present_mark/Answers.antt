-- Two dots that touch are next; what touches them tells the range operator.
use Rattle.std.proofs.Common.{refl, arith}
use Rattle.parser_input.specs.Kinds.{DOT}
use Rattle.parser_input.specs.declared.syntax_kind.SyntaxKind.TheVariants as variants
use Rattle.rust_grammar.specs.Expressions.{expressions, mark_begins}
use Rattle.rust_grammar.specs.Items.{items}
use Rattle.rust_grammar.specs.Meaning.{begins_below, look_of}
use Rattle.rust_grammar.specs.Notation.{any_of, is_longer, no_longer, longest, one_of, row}
use Rattle.rust_grammar.specs.Paths.{paths}
use Rattle.rust_grammar.specs.Patterns.{patterns}
use Rattle.rust_grammar.specs.Rule.{Joint, Kind, begins, in_mode, from_start, is_silent, passes, shift, there_at}
use Rattle.rust_grammar.specs.Statements.{statements}
use Rattle.rust_grammar.specs.Types.{types}
use Rattle.rust_grammar.specs.Whole.{rule, whole}
use Rattle.rust_productions.specs.Layers.{operators, operators_at}
use Rattle.rust_productions.specs.Reads.{On}
use Rattle.rust_productions.proofs.Facts.{nothing, saw-so, ◌and◌}
use Rattle.rust_productions.proofs.NoPath.{two-there}
use Rattle.rust_productions.proofs.Operators.{no-end}
use Rattle.rust_productions.proofs.Seen.{saw-else, saw-told}
use Rattle.rust_productions.proofs.grammar.operators.present_mark.Goals as goal

pub returns-then-at_joined_after-clause-mark : goal.returns-then-at_joined_after-clause-mark
unfolding look_of begins_below whole rule items statements expressions patterns types paths there_at shift passes is_silent begins in_mode from_start row one_of any_of no_longer longest is_longer operators_at operators
returns-then-at_joined_after-clause-mark c = record { dots = λ d. saw-told (saw-else (Kind 0 DOT) mark_begins nothing (c.requires.sees d) refl and (saw-else (Joint 0) mark_begins nothing (c.requires.sees d) refl and (saw-else (Kind 1 DOT) mark_begins nothing (c.requires.sees d) refl and (saw-so (c.at_joined_after.ensures.sees d) c.if-at_joined_after.true and nothing)))) refl; dots_eq = λ d. saw-told (saw-else (Kind 0 DOT) mark_begins nothing (c.requires.sees d) refl and (saw-else (Joint 0) mark_begins nothing (c.requires.sees d) refl and (saw-else (Kind 1 DOT) mark_begins nothing (c.requires.sees d) refl and (saw-so (c.at_joined_after.ensures.sees d) c.if-at_joined_after.true and nothing)))) refl; some = c.at_joined_after.ensures.some c.if-at_joined_after.true (no-end variants.EQ refl) }

pub returns-clause-mark : goal.returns-clause-mark
unfolding look_of begins_below whole rule items statements expressions patterns types paths there_at shift passes is_silent begins in_mode from_start row one_of any_of no_longer longest is_longer operators_at operators
returns-clause-mark c = record { dots = λ d. saw-told (saw-else (Kind 0 DOT) mark_begins nothing (c.requires.sees d) refl and (saw-else (Joint 0) mark_begins nothing (c.requires.sees d) refl and (saw-else (Kind 1 DOT) mark_begins nothing (c.requires.sees d) refl and (saw-so (c.at_joined_after.ensures.sees d) c.if-at_joined_after.false and nothing)))) refl; dots_eq = λ d. saw-told (saw-else (Kind 0 DOT) mark_begins nothing (c.requires.sees d) refl and (saw-else (Joint 0) mark_begins nothing (c.requires.sees d) refl and (saw-else (Kind 1 DOT) mark_begins nothing (c.requires.sees d) refl and (saw-so (c.at_joined_after.ensures.sees d) c.if-at_joined_after.false and nothing)))) refl; some = two-there (saw-else (Kind 1 DOT) mark_begins nothing (c.requires.sees On) refl) (no-end variants.DOT refl) }
