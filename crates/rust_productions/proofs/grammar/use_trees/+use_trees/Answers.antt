-- Each path reads what the rule comes to there.
use Rattle.parser_input.specs.Kinds as kinds
use Rattle.parser_input.specs.Kinds.{COMMA, COLON, USE_TREE, USE_TREE_LIST, RENAME}
use Rattle.parser_events.specs.Forest.{Expected, UnexpectedIn}
use Rattle.rust_grammar.specs.Notation.{◌or◌, ◌▸◌, next, one_of, stops, until}
use Rattle.rust_grammar.specs.Words.{'comma', 'l_curly', 'r_curly', '*'}
use Rattle.rust_grammar.specs.Calls.{UseTree}
use Rattle.rust_grammar.specs.Shared.{colons_before_more}
use Rattle.rust_grammar.specs.Rule.{Kind, Joint, Left, Both, Either, Not, Nothing, One, Say, Skip, When, Unless}
use Rattle.std.proofs.Common.{[], arith, refl, ◌∷◌}
use Rattle.rust_grammar.specs.Expressions.{expressions}
use Rattle.rust_grammar.specs.Items.{items}
use Rattle.rust_productions.specs.Looks.{tokens}
use Rattle.rust_grammar.specs.Meaning.{begins_below, look_of}
use Rattle.rust_grammar.specs.Notation.{any_of, is_longer, no_longer, longest, one_of, row}
use Rattle.rust_grammar.specs.Paths.{paths}
use Rattle.rust_grammar.specs.Patterns.{patterns}
use Rattle.rust_grammar.specs.Rule.{begins, in_mode, from_start, is_silent, passes, shift, there_at}
use Rattle.rust_grammar.specs.Statements.{statements}
use Rattle.rust_grammar.specs.Types.{types}
use Rattle.rust_grammar.specs.Whole.{rule, whole}
use Rattle.rust_grammar.specs.Rule as rules
use Rattle.rust_productions.specs.Reads.{On, Off}
use Rattle.rust_productions.proofs.ByHand.{after-look, does-then, reads-call, reads-mode, reads-node, reads-nothing, reads-then, reads-unless}
use Rattle.rust_productions.proofs.Choices.{from_start-after, gives-from_start, reads-here}
use Rattle.rust_productions.proofs.Facts.{begun, nothing, saw-so, ◌and◌}
use Rattle.rust_productions.proofs.Looking.{left-arm, saw-arm, saw-not}
use Rattle.rust_productions.proofs.Seen.{begins-else, ends-at-end, saw-before, saw-after, saw-else, saw-inside, saw-left, saw-none, saw-right, saw-taken}
use Rattle.rust_productions.proofs.Turns.{first-turn, last-turn, next-turn}
use Rattle.rust_productions.proofs.grammar.use_trees.+use_trees.Goals as goal

pub star_or_list-returns-then-at-clause-reads : goal.star_or_list-returns-then-at-clause-reads
unfolding look_of begins_below whole rule items statements expressions patterns types paths there_at shift passes is_silent begins in_mode from_start row one_of any_of no_longer longest is_longer
star_or_list-returns-then-at-clause-reads t c cond = reads-here (saw-so (c.at.ensures.sees cond) c.if-at.true and nothing) (after-look cond c.at.ensures.peeks.same ((c.take.ensures.reads cond)))

pub star_or_list-returns-clause-reads : goal.star_or_list-returns-clause-reads
unfolding look_of begins_below whole rule items statements expressions patterns types paths there_at shift passes is_silent begins in_mode from_start row one_of any_of no_longer longest is_longer
star_or_list-returns-clause-reads t c cond = reads-here (saw-so (c.at.ensures.sees cond) c.if-at.false and nothing) (after-look cond c.at.ensures.peeks.same (reads-call cond (c.use_list.ensures.gives cond)))

pub after_path-returns-then-at_colons_before_more-clause-reads : goal.after_path-returns-then-at_colons_before_more-clause-reads
unfolding look_of begins_below whole rule items statements expressions patterns types paths there_at shift passes is_silent begins in_mode from_start row one_of any_of no_longer longest is_longer
after_path-returns-then-at_colons_before_more-clause-reads t c cond = reads-here (saw-left (saw-left (saw-so (c.at_colons_before_more.ensures.sees cond) c.if-at_colons_before_more.true)) and saw-so (c.at_colons_before_more.ensures.sees cond) c.if-at_colons_before_more.true and nothing) (after-look cond c.at_colons_before_more.ensures.peeks.same (reads-then cond ((c.take_pair.ensures.reads cond _ _)) ((c.star_or_list.ensures.reads cond))))

pub after_path-returns-then-at-clause-reads : goal.after_path-returns-then-at-clause-reads
unfolding look_of begins_below whole rule items statements expressions patterns types paths there_at shift passes is_silent begins in_mode from_start row one_of any_of no_longer longest is_longer
after_path-returns-then-at-clause-reads t c cond = reads-here (saw-so (c.at_colons_before_more.ensures.sees cond) c.if-at_colons_before_more.false and saw-before c.at_colons_before_more.ensures.peeks.same (saw-so (c.at.ensures.sees cond) c.if-at.true) and nothing) (after-look cond c.at_colons_before_more.ensures.peeks.same (after-look cond c.at.ensures.peeks.same ((c.rename.ensures.reads cond))))

pub after_path-returns-else-at-clause-reads : goal.after_path-returns-else-at-clause-reads
unfolding look_of begins_below whole rule items statements expressions patterns types paths there_at shift passes is_silent begins in_mode from_start row one_of any_of no_longer longest is_longer
after_path-returns-else-at-clause-reads t c cond = reads-here (saw-none (Both (Kind 0 COLON) (Both (Joint 0) (Kind 1 COLON))) (Both (Not colons_before_more) (Both (Kind 0 COLON) (Both (Joint 0) (Kind 1 COLON)))) (saw-so (c.at_colons_before_more.ensures.sees cond) c.if-at_colons_before_more.false and nothing) (c.requires.ends cond) refl and saw-before c.at_colons_before_more.ensures.peeks.same (saw-so (c.at.ensures.sees cond) c.if-at.false) and nothing) (reads-nothing cond (does-then c.at_colons_before_more.ensures.peeks.same c.at.ensures.peeks.same))

pub path_tree-path-requires : goal.path_tree-path-requires
path_tree-path-requires t c = record { begins = record { sees = c.requires.begins; some = c.requires.some } }

pub path_tree-returns-clause-reads : goal.path_tree-returns-clause-reads
unfolding look_of begins_below whole rule items statements expressions patterns types paths there_at shift passes is_silent begins in_mode from_start row one_of any_of no_longer longest is_longer
path_tree-returns-clause-reads t c cond = reads-then cond (reads-call cond (c.path.ensures.gives cond)) ((c.after_path.ensures.reads cond))

pub path_tree-after_path-requires : goal.path_tree-after_path-requires
path_tree-after_path-requires t c = (omega arith, λ cond. c.path.ensures.ends cond)

pub after_colons-returns-then-at-clause-reads : goal.after_colons-returns-then-at-clause-reads
unfolding look_of begins_below whole rule items statements expressions patterns types paths there_at shift passes is_silent begins in_mode from_start row one_of any_of no_longer longest is_longer
after_colons-returns-then-at-clause-reads t c cond = reads-here (saw-so (c.at.ensures.sees cond) c.if-at.true and nothing) (after-look cond c.at.ensures.peeks.same ((c.take.ensures.reads cond)))

pub after_colons-returns-clause-reads : goal.after_colons-returns-clause-reads
unfolding look_of begins_below whole rule items statements expressions patterns types paths there_at shift passes is_silent begins in_mode from_start row one_of any_of no_longer longest is_longer
after_colons-returns-clause-reads t c cond = reads-here (saw-so (c.at.ensures.sees cond) c.if-at.false and saw-else (Kind 0 kinds.L_CURLY) (one_of 0 ('*' ∷ 'l_curly' ∷ [])) (saw-so (c.at.ensures.sees cond) c.if-at.false and nothing) (c.requires.next cond) refl and nothing) (after-look cond c.at.ensures.peeks.same (reads-call cond (c.use_list.ensures.gives cond)))

pub inside-returns-then-at_colons_before_more-clause-reads : goal.inside-returns-then-at_colons_before_more-clause-reads
unfolding look_of begins_below whole rule items statements expressions patterns types paths there_at shift passes is_silent begins in_mode from_start row one_of any_of no_longer longest is_longer
inside-returns-then-at_colons_before_more-clause-reads t c cond = reads-here (saw-left (saw-left (saw-so (c.at_colons_before_more.ensures.sees cond) c.if-at_colons_before_more.true)) and saw-so (c.at_colons_before_more.ensures.sees cond) c.if-at_colons_before_more.true and nothing) (after-look cond c.at_colons_before_more.ensures.peeks.same (reads-then cond ((c.take_pair.ensures.reads cond _ _)) ((c.after_colons.ensures.reads cond))))

pub inside-returns-in-STAR-clause-reads : goal.inside-returns-in-STAR-clause-reads
unfolding look_of begins_below whole rule items statements expressions patterns types paths there_at shift passes is_silent begins in_mode from_start row one_of any_of no_longer longest is_longer
inside-returns-in-STAR-clause-reads t c cond = reads-here (saw-so (c.at_colons_before_more.ensures.sees cond) c.if-at_colons_before_more.false and saw-before c.at_colons_before_more.ensures.peeks.same (left-arm c.in-STAR.is (c.current.ensures.end cond)) and saw-before c.at_colons_before_more.ensures.peeks.same (saw-arm c.in-STAR.is (c.current.ensures.sees cond)) and nothing) (after-look cond c.at_colons_before_more.ensures.peeks.same (after-look cond c.current.ensures.peeks.same ((c.take.ensures.reads cond))))

pub inside-returns-in-L_CURLY-clause-reads : goal.inside-returns-in-L_CURLY-clause-reads
unfolding look_of begins_below whole rule items statements expressions patterns types paths there_at shift passes is_silent begins in_mode from_start row one_of any_of no_longer longest is_longer
inside-returns-in-L_CURLY-clause-reads t c cond = reads-here (begun rules.use_list (begins-else rules.use_list rules.use_tree refl (saw-so (c.at_colons_before_more.ensures.sees cond) c.if-at_colons_before_more.false and saw-before c.at_colons_before_more.ensures.peeks.same (left-arm c.in-L_CURLY.is (c.current.ensures.end cond)) and saw-before c.at_colons_before_more.ensures.peeks.same (saw-arm c.in-L_CURLY.is (c.current.ensures.sees cond)) and nothing) (c.requires.begins cond) refl) (saw-so (c.at_colons_before_more.ensures.sees cond) c.if-at_colons_before_more.false and saw-before c.at_colons_before_more.ensures.peeks.same (left-arm c.in-L_CURLY.is (c.current.ensures.end cond)) and saw-before c.at_colons_before_more.ensures.peeks.same (saw-arm c.in-L_CURLY.is (c.current.ensures.sees cond)) and nothing)) (after-look cond c.at_colons_before_more.ensures.peeks.same (after-look cond c.current.ensures.peeks.same (reads-call cond (c.use_list.ensures.gives cond))))

pub inside-returns-in_default-clause-reads : goal.inside-returns-in_default-clause-reads
unfolding look_of begins_below whole rule items statements expressions patterns types paths there_at shift passes is_silent begins in_mode from_start row one_of any_of no_longer longest is_longer
inside-returns-in_default-clause-reads t c cond = reads-here (saw-so (c.at_colons_before_more.ensures.sees cond) c.if-at_colons_before_more.false and saw-before c.at_colons_before_more.ensures.peeks.same (saw-not c.in_default.not-STAR (c.current.ensures.sees cond)) and saw-before c.at_colons_before_more.ensures.peeks.same (saw-not c.in_default.not-L_CURLY (c.current.ensures.sees cond)) and nothing) (after-look cond c.at_colons_before_more.ensures.peeks.same (after-look cond c.current.ensures.peeks.same ((c.path_tree.ensures.reads cond))))

pub inside-after_colons-requires : goal.inside-after_colons-requires
unfolding look_of begins_below whole rule items statements expressions patterns types paths there_at shift passes is_silent begins in_mode from_start row one_of any_of no_longer longest is_longer
inside-after_colons-requires t c = (omega arith, (λ cond. saw-taken (one_of 0 ('*' ∷ 'l_curly' ∷ [])) refl (c.take_pair.ensures.reads On COLON COLON) (saw-after c.at_colons_before_more.ensures.peeks.same (saw-right (saw-so (c.at_colons_before_more.ensures.sees cond) c.if-at_colons_before_more.true))), (omega (arith, c.at_colons_before_more.ensures.some c.if-at_colons_before_more.true))))

pub inside-path_tree-requires : goal.inside-path_tree-requires
unfolding look_of begins_below whole rule items statements expressions patterns types paths there_at shift passes is_silent begins in_mode from_start row one_of any_of no_longer longest is_longer
inside-path_tree-requires t c = (omega arith, (λ cond. saw-after c.current.ensures.peeks.same (saw-after c.at_colons_before_more.ensures.peeks.same (begins-else rules.path rules.use_tree refl (saw-so (c.at_colons_before_more.ensures.sees cond) c.if-at_colons_before_more.false and saw-before c.at_colons_before_more.ensures.peeks.same (saw-not c.in_default.not-STAR (c.current.ensures.sees cond)) and saw-before c.at_colons_before_more.ensures.peeks.same (saw-not c.in_default.not-L_CURLY (c.current.ensures.sees cond)) and nothing) (c.requires.begins cond) refl)), omega arith))

pub use_tree-complete-requires : goal.use_tree-complete-requires
use_tree-complete-requires t c = (c.inside.ensures.reads On).does.innermost _ (c.start-tree.ensures.marker)

pub use_tree-returns-clause-gives : goal.use_tree-returns-clause-gives
unfolding look_of begins_below whole rule items statements expressions patterns types paths there_at shift passes is_silent begins in_mode from_start row one_of any_of no_longer longest is_longer
use_tree-returns-clause-gives t c cond = gives-from_start (from_start-after refl (reads-node cond c.start-tree.ensures.opens ((c.inside.ensures.reads cond)) c.complete.ensures.closes))

pub use_tree-inside-requires : goal.use_tree-inside-requires
use_tree-inside-requires t c = (omega arith, (λ cond. saw-inside c.start-tree.ensures.opens (c.requires.begins cond), omega arith))

pub use_list-complete-requires : goal.use_list-complete-requires
use_list-complete-requires t c = (c.expect.ensures.reads On).does.innermost _ (c.use_turns.ensures.reads.does.innermost _ ((c.take.ensures.reads On).does.innermost _ (c.start-list.ensures.marker)))

pub use_list-returns-clause-gives : goal.use_list-returns-clause-gives
unfolding look_of begins_below whole rule items statements expressions patterns types paths there_at shift passes is_silent begins in_mode from_start row one_of any_of no_longer longest is_longer
use_list-returns-clause-gives t c cond = gives-from_start (from_start-after refl (reads-node cond c.start-list.ensures.opens (reads-then cond ((c.take.ensures.reads cond)) (reads-then cond (reads-mode cond (c.use_turns.ensures.reads)) ((c.expect.ensures.reads cond)))) c.complete.ensures.closes))

pub use_turn-returns-then-at_use_tree-clause-reads : goal.use_turn-returns-then-at_use_tree-clause-reads
unfolding look_of begins_below whole rule items statements expressions patterns types paths there_at shift passes is_silent begins in_mode from_start row one_of any_of no_longer longest is_longer
use_turn-returns-then-at_use_tree-clause-reads t c = reads-here (begun rules.use_tree (saw-so (c.at_use_tree.ensures.sees Off) c.if-at_use_tree.true) (nothing)) (after-look Off c.at_use_tree.ensures.peeks.same (reads-then Off (reads-call Off (c.use_tree.ensures.gives Off)) ((c.comma.ensures.reads Off))))

pub use_turn-returns-clause-reads : goal.use_turn-returns-clause-reads
unfolding look_of begins_below whole rule items statements expressions patterns types paths there_at shift passes is_silent begins in_mode from_start row one_of any_of no_longer longest is_longer
use_turn-returns-clause-reads t c = reads-here (begun rules.use_tree (saw-so (c.at_use_tree.ensures.sees Off) c.if-at_use_tree.false) (nothing)) (after-look Off c.at_use_tree.ensures.peeks.same ((c.skip.ensures.reads Off)))

pub use_turn-use_tree-requires : goal.use_turn-use_tree-requires
use_turn-use_tree-requires t c = (omega arith, (λ cond. saw-after c.at_use_tree.ensures.peeks.same (saw-so (c.at_use_tree.ensures.sees cond) c.if-at_use_tree.true), omega arith))

pub use_turns-turns-init : goal.use_turns-turns-init
use_turns-turns-init t c = (first-turn, omega arith, omega arith)

pub use_turns-turns-preserved : goal.use_turns-turns-preserved
unfolding tokens look_of begins_below whole rule items statements expressions patterns types paths there_at shift passes is_silent begins in_mode from_start row one_of any_of no_longer longest is_longer
use_turns-turns-preserved t c = (next-turn Off (Unless (until 'r_curly') (UseTree ▸ (One 'comma' or When (next 'r_curly') Nothing or Say (Expected COMMA)) or When (Both Left (Not (one_of 0 stops))) (Skip (UnexpectedIn USE_TREE_LIST)))) (ends-at-end Off (Unless (until 'r_curly') (UseTree ▸ (One 'comma' or When (next 'r_curly') Nothing or Say (Expected COMMA)) or When (Both Left (Not (one_of 0 stops))) (Skip (UnexpectedIn USE_TREE_LIST)))) refl) _ _ _ (c.turns.invariant.0) (saw-so (c.at_use_turn.ensures.sees Off) c.turns-test.true) (after-look Off c.at_use_turn.ensures.peeks.same (reads-unless Off (c.use_turn.ensures.reads))) (omega (arith, c.use_turn.ensures.takes.left, c.at_use_turn.ensures.peeks.left)), omega (arith, c.turns.invariant.1), omega (arith, c.turns.invariant.2))

pub use_turns-returns-clause-reads : goal.use_turns-returns-clause-reads
unfolding tokens look_of begins_below whole rule items statements expressions patterns types paths there_at shift passes is_silent begins in_mode from_start row one_of any_of no_longer longest is_longer
use_turns-returns-clause-reads t c = last-turn Off (Unless (until 'r_curly') (UseTree ▸ (One 'comma' or When (next 'r_curly') Nothing or Say (Expected COMMA)) or When (Both Left (Not (one_of 0 stops))) (Skip (UnexpectedIn USE_TREE_LIST)))) (ends-at-end Off (Unless (until 'r_curly') (UseTree ▸ (One 'comma' or When (next 'r_curly') Nothing or Say (Expected COMMA)) or When (Both Left (Not (one_of 0 stops))) (Skip (UnexpectedIn USE_TREE_LIST)))) refl) _ _ _ (c.turns.invariant.0) (saw-so (c.at_use_turn.ensures.sees Off) c.turns-test.false) c.at_use_turn.ensures.peeks.same

pub use_turns-use_turn-requires : goal.use_turns-use_turn-requires
use_turns-use_turn-requires t c = omega (arith, c.at_use_turn.ensures.some c.turns-test.true, c.at_use_turn.ensures.peeks.left)
