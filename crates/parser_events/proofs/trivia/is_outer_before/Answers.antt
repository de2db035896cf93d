-- The last of the leaves is the first of them backwards.
use Rattle.std.proofs.Common.{◌==◌, ℕ, ap, sym, ◌∙◌, arith}
use Rattle.parser_input.specs.Kinds.{COMMENT}
use Rattle.parser_events.specs.Trivia.{is_outer}
use Rattle.parser_events.proofs.Comments.{and-same}
use Rattle.parser_events.proofs.Walks.{outer-none, outer-last}
use Rattle.parser_events.proofs.trivia.is_outer_before.Goals as goal

pub returns-then-start-end : goal.returns-then-start-end
returns-then-start-end c = sym (outer-none c.args.lexed.now.leaves c.args.start c.args.end c.if-start-end.true)

pub returns : goal.returns
returns c =
    and-same _ _ _ _ (c.is_comment.ensures ∙ ap (λ (k : ℕ). k == COMMENT) c.kind.ensures) (c.is_outer.ensures ∙ ap is_outer c.text.ensures)
    ∙ sym (outer-last c.args.lexed.now.leaves c.args.start c.args.end (omega (arith, c.requires.order, c.if-start-end.false)) c.requires.within)
