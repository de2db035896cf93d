-- Each path reads what the rule comes to there.
use Rattle.rust_grammar.specs.Notation.{◌or◌, one_of}
use Rattle.rust_grammar.specs.Words.{'r_paren', 'r_curly', ']'}
use Rattle.rust_grammar.specs.Calls.{TokenTree}
use Rattle.rust_grammar.specs.Rule.{Left, Both, Either, Not, When, Want, Any}
use Rattle.std.proofs.Common.{[], arith, refl, ◌∷◌}
use Rattle.rust_grammar.specs.Expressions.{expressions}
use Rattle.rust_grammar.specs.Items.{items}
use Rattle.rust_productions.specs.Looks.{tokens}
use Rattle.rust_grammar.specs.Meaning.{begins_below, look_of}
use Rattle.rust_grammar.specs.Notation.{any_of, is_longer, no_longer, longest, one_of, row}
use Rattle.rust_grammar.specs.Paths.{paths}
use Rattle.rust_grammar.specs.Patterns.{patterns}
use Rattle.rust_grammar.specs.Rule.{begins, in_mode, from_start, is_silent, passes, shift, there_at}
use Rattle.rust_grammar.specs.Statements.{statements}
use Rattle.rust_grammar.specs.Types.{types}
use Rattle.rust_grammar.specs.Whole.{rule, whole}
use Rattle.rust_grammar.specs.Rule as rules
use Rattle.rust_productions.specs.Reads.{On}
use Rattle.rust_productions.proofs.ByHand.{after-look, reads-call, reads-node, reads-then}
use Rattle.rust_productions.proofs.Choices.{from_start-after, from_start-here, gives-from_start, reads-here}
use Rattle.rust_productions.proofs.Facts.{begun, nothing, saw-so, ◌and◌}
use Rattle.rust_productions.proofs.Looking.{left-arm, saw-arm, saw-not}
use Rattle.rust_productions.proofs.Seen.{ends-at-end}
use Rattle.rust_productions.proofs.Turns.{first-turn, last-turn, next-turn}
use Rattle.rust_productions.proofs.grammar.token_trees.+token_trees.Goals as goal

pub inner-returns-then-at_token_tree-clause-reads : goal.inner-returns-then-at_token_tree-clause-reads
unfolding look_of begins_below whole rule items statements expressions patterns types paths there_at shift passes is_silent begins in_mode from_start row one_of any_of no_longer longest is_longer
inner-returns-then-at_token_tree-clause-reads t c cond = reads-here (begun rules.token_tree (saw-so (c.at_token_tree.ensures.sees cond) c.if-at_token_tree.true) (nothing)) (after-look cond c.at_token_tree.ensures.peeks.same (reads-call cond (c.token_tree.ensures.gives cond)))

pub inner-returns-clause-reads : goal.inner-returns-clause-reads
unfolding look_of begins_below whole rule items statements expressions patterns types paths there_at shift passes is_silent begins in_mode from_start row one_of any_of no_longer longest is_longer
inner-returns-clause-reads t c cond = reads-here (begun rules.token_tree (saw-so (c.at_token_tree.ensures.sees cond) c.if-at_token_tree.false) (nothing)) (after-look cond c.at_token_tree.ensures.peeks.same ((c.take_any.ensures.reads cond)))

pub bracketed-complete-requires : goal.bracketed-complete-requires
bracketed-complete-requires t c = (c.expect.ensures.reads On).does.innermost _ ((c.inner_tokens.ensures.reads On).does.innermost _ ((c.take.ensures.reads On).does.innermost _ (c.start-tree.ensures.marker)))

pub bracketed-returns-clause-reads : goal.bracketed-returns-clause-reads
unfolding look_of begins_below whole rule items statements expressions patterns types paths there_at shift passes is_silent begins in_mode from_start row one_of any_of no_longer longest is_longer
bracketed-returns-clause-reads t c cond = reads-node cond c.start-tree.ensures.opens (reads-then cond ((c.take.ensures.reads cond)) (reads-then cond ((c.inner_tokens.ensures.reads cond)) ((c.expect.ensures.reads cond)))) c.complete.ensures.closes

pub token_tree-returns-in-L_PAREN-clause-gives : goal.token_tree-returns-in-L_PAREN-clause-gives
unfolding look_of begins_below whole rule items statements expressions patterns types paths there_at shift passes is_silent begins in_mode from_start row one_of any_of no_longer longest is_longer
token_tree-returns-in-L_PAREN-clause-gives t c cond = gives-from_start (from_start-here (left-arm c.in-L_PAREN.is (c.current.ensures.end cond) and saw-arm c.in-L_PAREN.is (c.current.ensures.sees cond) and nothing) (from_start-after refl (after-look cond c.current.ensures.peeks.same ((c.bracketed.ensures.reads cond)))))

pub token_tree-returns-in-L_BRACK-clause-gives : goal.token_tree-returns-in-L_BRACK-clause-gives
unfolding look_of begins_below whole rule items statements expressions patterns types paths there_at shift passes is_silent begins in_mode from_start row one_of any_of no_longer longest is_longer
token_tree-returns-in-L_BRACK-clause-gives t c cond = gives-from_start (from_start-here (left-arm c.in-L_BRACK.is (c.current.ensures.end cond) and saw-arm c.in-L_BRACK.is (c.current.ensures.sees cond) and nothing) (from_start-after refl (after-look cond c.current.ensures.peeks.same ((c.bracketed-in-L_BRACK.ensures.reads cond)))))

pub token_tree-returns-in_default-clause-gives : goal.token_tree-returns-in_default-clause-gives
unfolding look_of begins_below whole rule items statements expressions patterns types paths there_at shift passes is_silent begins in_mode from_start row one_of any_of no_longer longest is_longer
token_tree-returns-in_default-clause-gives t c cond = gives-from_start (from_start-here (saw-not c.in_default.not-L_PAREN (c.current.ensures.sees cond) and saw-not c.in_default.not-L_BRACK (c.current.ensures.sees cond) and nothing) (from_start-after refl (after-look cond c.current.ensures.peeks.same ((c.bracketed-in_default.ensures.reads cond)))))

pub inner_tokens-turns-init : goal.inner_tokens-turns-init
inner_tokens-turns-init t c = (λ cond. first-turn, omega arith, omega arith)

pub inner_tokens-turns-preserved : goal.inner_tokens-turns-preserved
unfolding tokens look_of begins_below whole rule items statements expressions patterns types paths there_at shift passes is_silent begins in_mode from_start row one_of any_of no_longer longest is_longer
inner_tokens-turns-preserved t c = (λ cond. next-turn cond (TokenTree or When (Both Left (Not (one_of 0 ('r_paren' ∷ 'r_curly' ∷ ']' ∷ [])))) Any) (ends-at-end cond (TokenTree or When (Both Left (Not (one_of 0 ('r_paren' ∷ 'r_curly' ∷ ']' ∷ [])))) Any) refl) _ _ _ (c.turns.invariant.0 cond) (saw-so (c.at_inner.ensures.sees cond) c.turns-test.true) (after-look cond c.at_inner.ensures.peeks.same ((c.inner.ensures.reads cond))) (omega (arith, c.inner.ensures.takes.left, c.at_inner.ensures.peeks.left)), omega (arith, c.turns.invariant.1), omega (arith, c.turns.invariant.2))

pub inner_tokens-returns-clause-reads : goal.inner_tokens-returns-clause-reads
unfolding tokens look_of begins_below whole rule items statements expressions patterns types paths there_at shift passes is_silent begins in_mode from_start row one_of any_of no_longer longest is_longer
inner_tokens-returns-clause-reads t c cond = last-turn cond (TokenTree or When (Both Left (Not (one_of 0 ('r_paren' ∷ 'r_curly' ∷ ']' ∷ [])))) Any) (ends-at-end cond (TokenTree or When (Both Left (Not (one_of 0 ('r_paren' ∷ 'r_curly' ∷ ']' ∷ [])))) Any) refl) _ _ _ (c.turns.invariant.0 cond) (saw-so (c.at_inner.ensures.sees cond) c.turns-test.false) c.at_inner.ensures.peeks.same

pub inner_tokens-inner-requires : goal.inner_tokens-inner-requires
inner_tokens-inner-requires t c = omega (arith, c.at_inner.ensures.some c.turns-test.true, c.at_inner.ensures.peeks.left)
