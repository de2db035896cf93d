-- Each path reads what the rule comes to there.
use Rattle.std.proofs.Common.{refl}
use Rattle.rust_grammar.specs.Expressions.{expressions}
use Rattle.rust_grammar.specs.Items.{items}
use Rattle.rust_grammar.specs.Meaning.{begins_below, look_of}
use Rattle.rust_grammar.specs.Notation.{any_of, is_longer, no_longer, longest, one_of, row}
use Rattle.rust_grammar.specs.Paths.{paths}
use Rattle.rust_grammar.specs.Patterns.{patterns}
use Rattle.rust_grammar.specs.Rule.{begins, in_mode, from_start, is_silent, passes, shift, there_at}
use Rattle.rust_grammar.specs.Statements.{statements}
use Rattle.rust_grammar.specs.Types.{types}
use Rattle.rust_grammar.specs.Whole.{rule, whole}
use Rattle.rust_productions.proofs.Facts.{nothing, ◌and◌}
use Rattle.rust_productions.proofs.Looking.{left-arm, left-not, saw-arm, saw-not}
use Rattle.rust_productions.proofs.Seen.{saw-told}
use Rattle.rust_productions.proofs.grammar.lists.at_end.Goals as goal

pub returns-in-EOF-clause-sees : goal.returns-in-EOF-clause-sees
unfolding look_of begins_below whole rule items statements expressions patterns types paths there_at shift passes is_silent begins in_mode from_start row one_of any_of no_longer longest is_longer
returns-in-EOF-clause-sees c cond = saw-told (left-arm c.in-EOF.is (c.current.ensures.end cond) and saw-arm c.in-EOF.is (c.current.ensures.sees cond) and nothing) refl

pub returns-in_default-clause-sees : goal.returns-in_default-clause-sees
unfolding look_of begins_below whole rule items statements expressions patterns types paths there_at shift passes is_silent begins in_mode from_start row one_of any_of no_longer longest is_longer
returns-in_default-clause-sees c cond = saw-told (left-not c.in_default.not-EOF (c.current.ensures.end cond) and saw-not c.in_default.not-EOF (c.current.ensures.sees cond) and nothing) refl
