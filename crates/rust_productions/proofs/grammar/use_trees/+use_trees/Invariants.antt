-- What is left shrinks from call to call, and what repetitions keep.
use Rattle.std.specs.Prelude.{◌+◌, ◌*◌, ◌≤◌}
use Rattle.parser_input.specs.Kinds.{COMMA, USE_TREE_LIST}
use Rattle.parser_events.specs.Forest.{Expected, UnexpectedIn}
use Rattle.rust_productions.specs.Looks.{tokens, spent}
use Rattle.rust_grammar.specs.Notation.{◌or◌, ◌▸◌, ◌*, next, one_of, stops, until}
use Rattle.rust_grammar.specs.Words.{'comma', 'r_curly'}
use Rattle.rust_grammar.specs.Calls.{UseTree}
use Rattle.rust_grammar.specs.Rule.{Left, Both, Not, Nothing, One, Say, Skip, When, Unless}
use Rattle.rust_productions.specs.Reads.{Off}
use Rattle.rust_productions.specs.Turns.{TurnsFrom}
use Rattle.rust_productions.proofs.grammar.use_trees.+use_trees.Given as goal

abbrev pub decreases-star_or_list : goal.decreases-star_or_list
decreases-star_or_list l = 64 * tokens l.p.now + 2

abbrev pub decreases-after_path : goal.decreases-after_path
decreases-after_path l = 64 * tokens l.p.now + 2

abbrev pub decreases-path_tree : goal.decreases-path_tree
decreases-path_tree l = 64 * tokens l.p.now + 2

abbrev pub decreases-after_colons : goal.decreases-after_colons
decreases-after_colons l = 64 * tokens l.p.now + 2

abbrev pub decreases-inside : goal.decreases-inside
decreases-inside l = 64 * tokens l.p.now + 3

abbrev pub decreases-use_tree : goal.decreases-use_tree
decreases-use_tree l = 64 * tokens l.p.now + 4

abbrev pub decreases-use_list : goal.decreases-use_list
decreases-use_list l = 64 * tokens l.p.now + 1

abbrev pub decreases-use_turn : goal.decreases-use_turn
decreases-use_turn l = 64 * tokens l.p.now + 5

abbrev pub decreases-use_turns : goal.decreases-use_turns
decreases-use_turns l = 64 * tokens l.p.now + 6

abbrev pub invariant-use_turns-turns : goal.invariant-use_turns-turns
invariant-use_turns-turns l = TurnsFrom Off (Unless (until 'r_curly') (UseTree ▸ (One 'comma' or When (next 'r_curly') Nothing or Say (Expected COMMA)) or When (Both Left (Not (one_of 0 stops))) (Skip (UnexpectedIn USE_TREE_LIST)))) l.initial.p l.p × (tokens l.p ≤ tokens l.initial.p) × (spent l.p ≤ spent l.initial.p)

abbrev pub decreases-use_turns-turns : goal.decreases-use_turns-turns
decreases-use_turns-turns l = tokens l.p
