use Rattle.std.proofs.Common.{◌≡◌, ◌≤◌, ◌++◌, length}
use Rattle.rowan.specs.Place.{start_of, terms_below, below}
use Rattle.rowan.specs.Around.{first}
use Rattle.rowan.specs.Leaves.{tokens_back, tokens_before}
use Rattle.rowan.proofs.cursor.SyntaxToken.prev_token.Given as goal

abbrev pub invariant-loop-token : goal.invariant-loop-token
invariant-loop-token l = record {
  at_end : l.end ≡ start_of (below l.node l.count);
  within : l.count ≤ length (terms_below l.node);
  none_so_far : first (tokens_before l.self) ≡ first (tokens_back l.node l.count ++ tokens_before l.node);
}

abbrev pub decreases-loop-token : goal.decreases-loop-token
decreases-loop-token l = length l.node.up
