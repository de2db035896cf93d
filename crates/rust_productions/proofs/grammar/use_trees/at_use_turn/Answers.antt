-- Each path reads what the rule comes to there.
use Rattle.std.proofs.Common.{refl, arith}
use Rattle.rust_grammar.specs.Expressions.{expressions}
use Rattle.rust_grammar.specs.Items.{items}
use Rattle.rust_grammar.specs.Meaning.{begins_below, look_of}
use Rattle.rust_grammar.specs.Notation.{any_of, is_longer, no_longer, longest, one_of, row}
use Rattle.rust_grammar.specs.Paths.{paths}
use Rattle.rust_grammar.specs.Patterns.{patterns}
use Rattle.rust_grammar.specs.Rule.{begins, in_mode, from_start, is_silent, passes, shift, there_at}
use Rattle.rust_grammar.specs.Statements.{statements}
use Rattle.rust_grammar.specs.Types.{types}
use Rattle.rust_grammar.specs.Whole.{rule, whole}
use Rattle.rust_grammar.specs.Rule as rules
use Rattle.rust_productions.proofs.Facts.{begun, nothing, saw-so, ◌and◌}
use Rattle.rust_productions.proofs.Seen.{saw-before, saw-told}
use Rattle.rust_productions.proofs.Peeking.{peeks-then, peeks-within}
use Rattle.rust_productions.proofs.grammar.use_trees.at_use_turn.Goals as goal

pub returns-then-at_list_end-clause-sees : goal.returns-then-at_list_end-clause-sees
unfolding look_of begins_below whole rule items statements expressions patterns types paths there_at shift passes is_silent begins in_mode from_start row one_of any_of no_longer longest is_longer
returns-then-at_list_end-clause-sees c cond = saw-told (saw-so (c.at_list_end.ensures.sees cond) c.if-at_list_end.true and nothing) refl

pub returns-then-at_use_tree-clause-sees : goal.returns-then-at_use_tree-clause-sees
unfolding look_of begins_below whole rule items statements expressions patterns types paths there_at shift passes is_silent begins in_mode from_start row one_of any_of no_longer longest is_longer
returns-then-at_use_tree-clause-sees c cond = saw-told (saw-so (c.at_list_end.ensures.sees cond) c.if-at_list_end.false and begun rules.use_tree (saw-before c.at_list_end.ensures.peeks.same (saw-so (c.at_use_tree.ensures.sees cond) c.if-at_use_tree.true)) (saw-before c.at_list_end.ensures.peeks.same (saw-so (c.at_use_tree.ensures.sees cond) c.if-at_use_tree.true) and nothing)) refl

pub returns-then-at_use_tree-clause-peeks : goal.returns-then-at_use_tree-clause-peeks
returns-then-at_use_tree-clause-peeks c = peeks-within (peeks-then c.at_list_end.ensures.peeks c.at_use_tree.ensures.peeks) (omega arith)

pub returns-then-at_unexpected-clause-sees : goal.returns-then-at_unexpected-clause-sees
unfolding look_of begins_below whole rule items statements expressions patterns types paths there_at shift passes is_silent begins in_mode from_start row one_of any_of no_longer longest is_longer
returns-then-at_unexpected-clause-sees c cond = saw-told (saw-so (c.at_list_end.ensures.sees cond) c.if-at_list_end.false and begun rules.use_tree (saw-before c.at_list_end.ensures.peeks.same (saw-so (c.at_use_tree.ensures.sees cond) c.if-at_use_tree.false)) (saw-before c.at_list_end.ensures.peeks.same (saw-so (c.at_use_tree.ensures.sees cond) c.if-at_use_tree.false) and saw-before c.at_list_end.ensures.peeks.same (saw-before c.at_use_tree.ensures.peeks.same (saw-so (c.at_unexpected.ensures.sees cond) c.if-at_unexpected.true)) and nothing)) refl

pub returns-then-at_unexpected-clause-peeks : goal.returns-then-at_unexpected-clause-peeks
returns-then-at_unexpected-clause-peeks c = peeks-then c.at_list_end.ensures.peeks (peeks-then c.at_use_tree.ensures.peeks c.at_unexpected.ensures.peeks)

pub returns-clause-sees : goal.returns-clause-sees
unfolding look_of begins_below whole rule items statements expressions patterns types paths there_at shift passes is_silent begins in_mode from_start row one_of any_of no_longer longest is_longer
returns-clause-sees c cond = saw-told (saw-so (c.at_list_end.ensures.sees cond) c.if-at_list_end.false and begun rules.use_tree (saw-before c.at_list_end.ensures.peeks.same (saw-so (c.at_use_tree.ensures.sees cond) c.if-at_use_tree.false)) (saw-before c.at_list_end.ensures.peeks.same (saw-so (c.at_use_tree.ensures.sees cond) c.if-at_use_tree.false) and saw-before c.at_list_end.ensures.peeks.same (saw-before c.at_use_tree.ensures.peeks.same (saw-so (c.at_unexpected.ensures.sees cond) c.if-at_unexpected.false)) and nothing)) refl

pub returns-clause-peeks : goal.returns-clause-peeks
returns-clause-peeks c = peeks-then c.at_list_end.ensures.peeks (peeks-then c.at_use_tree.ensures.peeks c.at_unexpected.ensures.peeks)
