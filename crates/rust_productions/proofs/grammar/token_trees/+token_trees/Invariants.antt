-- What is left shrinks from call to call, and what repetitions keep.
use Rattle.std.specs.Prelude.{◌+◌, ◌*◌, ◌≤◌, [], ◌∷◌}
use Rattle.rust_productions.specs.Looks.{tokens, spent}
use Rattle.rust_grammar.specs.Notation.{◌or◌, ◌*, one_of}
use Rattle.rust_grammar.specs.Words.{'r_paren', 'r_curly', ']'}
use Rattle.rust_grammar.specs.Calls.{TokenTree}
use Rattle.rust_grammar.specs.Rule.{Left, Both, Not, When, Any}
use Rattle.rust_productions.specs.Reads.{Condition}
use Rattle.rust_productions.specs.Turns.{TurnsFrom}
use Rattle.rust_productions.proofs.grammar.token_trees.+token_trees.Given as goal

abbrev pub decreases-inner : goal.decreases-inner
decreases-inner l = 64 * tokens l.p.now + 3

abbrev pub decreases-inner_tokens : goal.decreases-inner_tokens
decreases-inner_tokens l = 64 * tokens l.p.now + 4

abbrev pub decreases-bracketed : goal.decreases-bracketed
decreases-bracketed l = 64 * tokens l.p.now + 1

abbrev pub decreases-token_tree : goal.decreases-token_tree
decreases-token_tree l = 64 * tokens l.p.now + 2

abbrev pub invariant-inner_tokens-turns : goal.invariant-inner_tokens-turns
invariant-inner_tokens-turns l = ((c : Condition) → TurnsFrom c (TokenTree or When (Both Left (Not (one_of 0 ('r_paren' ∷ 'r_curly' ∷ ']' ∷ [])))) Any) l.initial.p l.p) × (tokens l.p ≤ tokens l.initial.p) × (spent l.p ≤ spent l.initial.p)

abbrev pub decreases-inner_tokens-turns : goal.decreases-inner_tokens-turns
decreases-inner_tokens-turns l = tokens l.p
