use Rattle.std.proofs.Common.{◌≡◌, ◌++◌, length}
use Rattle.rowan.specs.Place.{start_of, below}
use Rattle.rowan.specs.Around.{first}
use Rattle.rowan.specs.Leaves.{tokens_from, tokens_after}
use Rattle.rowan.proofs.cursor.SyntaxToken.next_token.Given as goal

abbrev pub invariant-loop-token : goal.invariant-loop-token
invariant-loop-token l = record {
  at_offset : l.offset ≡ start_of (below l.node l.index);
  none_so_far : first (tokens_after l.self) ≡ first (tokens_from l.node l.index ++ tokens_after l.node);
}

abbrev pub decreases-loop-token : goal.decreases-loop-token
decreases-loop-token l = length l.node.up
