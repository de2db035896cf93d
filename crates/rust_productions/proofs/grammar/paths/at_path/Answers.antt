-- Each path reads what the rule comes to there.
use Rattle.std.proofs.Common.{refl}
use Rattle.rust_grammar.specs.Expressions.{expressions}
use Rattle.rust_grammar.specs.Items.{items}
use Rattle.rust_grammar.specs.Meaning.{begins_below, look_of}
use Rattle.rust_grammar.specs.Notation.{any_of, is_longer, no_longer, longest, one_of, row}
use Rattle.rust_grammar.specs.Paths.{paths}
use Rattle.rust_grammar.specs.Patterns.{patterns}
use Rattle.rust_grammar.specs.Rule.{begins, in_mode, from_start, is_silent, passes, shift, there_at}
use Rattle.rust_grammar.specs.Statements.{statements}
use Rattle.rust_grammar.specs.Types.{types}
use Rattle.rust_grammar.specs.Whole.{rule, whole}
use Rattle.rust_grammar.specs.Rule as rules
use Rattle.rust_productions.proofs.Facts.{begun, nothing, saw-so, ◌and◌}
use Rattle.rust_productions.proofs.Seen.{begins-row, saw-before}
use Rattle.rust_productions.proofs.Peeking.{peeks-then}
use Rattle.rust_productions.proofs.grammar.paths.at_path.Goals as goal

pub returns-then-at_name_ref-clause-sees : goal.returns-then-at_name_ref-clause-sees
unfolding look_of begins_below whole rule items statements expressions patterns types paths there_at shift passes is_silent begins in_mode from_start row one_of any_of no_longer longest is_longer
returns-then-at_name_ref-clause-sees c cond = begins-row rules.path (begun rules.name_ref (saw-so (c.at_name_ref.ensures.sees cond) c.if-at_name_ref.true) (nothing)) refl

pub returns-then-at_colons-clause-sees : goal.returns-then-at_colons-clause-sees
unfolding look_of begins_below whole rule items statements expressions patterns types paths there_at shift passes is_silent begins in_mode from_start row one_of any_of no_longer longest is_longer
returns-then-at_colons-clause-sees c cond = begins-row rules.path (begun rules.name_ref (saw-so (c.at_name_ref.ensures.sees cond) c.if-at_name_ref.false) (saw-before c.at_name_ref.ensures.peeks.same (saw-so (c.at_colons.ensures.sees cond) c.if-at_colons.true) and nothing)) refl

pub returns-then-at_colons-clause-peeks : goal.returns-then-at_colons-clause-peeks
returns-then-at_colons-clause-peeks c = peeks-then c.at_name_ref.ensures.peeks c.at_colons.ensures.peeks

pub returns-clause-sees : goal.returns-clause-sees
unfolding look_of begins_below whole rule items statements expressions patterns types paths there_at shift passes is_silent begins in_mode from_start row one_of any_of no_longer longest is_longer
returns-clause-sees c cond = begins-row rules.path (begun rules.name_ref (saw-so (c.at_name_ref.ensures.sees cond) c.if-at_name_ref.false) (saw-before c.at_name_ref.ensures.peeks.same (saw-so (c.at_colons.ensures.sees cond) c.if-at_colons.false) and nothing)) refl

pub returns-clause-peeks : goal.returns-clause-peeks
returns-clause-peeks c = peeks-then c.at_name_ref.ensures.peeks c.at_colons.ensures.peeks
