use Rattle.std.proofs.Common.{◌≡◌, ◌==◌, ℕ, true, false, not, ap, sym, ◌∙◌}
use Rattle.parser_input.specs.Kinds.{COMMENT}
use Rattle.parser_input.specs.Stored.{leaf_at}
use Rattle.parser_events.specs.Trivia.{is_inner, has_empty_line}
use Rattle.parser_events.proofs.Comments.{and-same}
use Rattle.parser_events.proofs.Walks.{on-true, on-false}
use Rattle.parser_events.proofs.trivia.stops_at.Goals as goal

pub returns-then-is_comment : goal.returns-then-is_comment
returns-then-is_comment c =
    let e : ((leaf_at c.args.lexed.now.leaves c.args.leaf).leaf.kind == COMMENT) ≡ true =
    ap (λ (k : ℕ). k == COMMENT) (sym c.kind.ensures) ∙ sym c.is_comment.ensures ∙ c.if-is_comment.true in
    c.is_inner.ensures ∙ ap is_inner c.text.ensures ∙ sym (on-true _ _ _ e)

pub returns : goal.returns
returns c =
    let e : ((leaf_at c.args.lexed.now.leaves c.args.leaf).leaf.kind == COMMENT) ≡ false =
    ap (λ (k : ℕ). k == COMMENT) (sym c.kind.ensures) ∙ sym c.is_comment.ensures ∙ c.if-is_comment.false in
    and-same _ _ _ _ (c.has_empty_line.ensures ∙ ap has_empty_line c.text-2.ensures) (ap not c.is_outer_before.ensures) ∙ sym (on-false _ _ _ e)
