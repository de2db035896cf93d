use Rattle.std.proofs.Common.{refl}
use Rattle.source_tools.specs.Texts.{rows_of}
use Rattle.source_tools.proofs.view.rows_of.Goals as goal
use Rattle.source_tools.proofs.view.rows_of.Goals.{in-Messages+in_ok-push_message_view-in-Messages, in-Tokens+in_ok-push_token_view-in-Tokens, in-Tree+in_ok-push_tree_view-in-Tree}

pub returns : goal.returns
unfolding rows_of
returns c = elim c.match-view.branch [
  | in-Messages+in_ok-push_message_view-in-Messages w ↦ rw (w.rows-is, w.in_ok-push_message_view-in-Messages.ensures, c.new-rows.ensures.items, w.in-Messages.is, rows_of) refl
  | in-Tokens+in_ok-push_token_view-in-Tokens w ↦ rw (w.rows-is, w.in_ok-push_token_view-in-Tokens.ensures, c.new-rows.ensures.items, w.in-Tokens.is, rows_of) refl
  | in-Tree+in_ok-push_tree_view-in-Tree w ↦ rw (w.rows-is, w.in_ok-push_tree_view-in-Tree.ensures, c.new-rows.ensures.items, w.in-Tree.is, rows_of) refl
]
