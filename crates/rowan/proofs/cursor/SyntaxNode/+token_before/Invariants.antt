use Rattle.std.proofs.Common.{◌≡◌, ◌≤◌, length}
use Rattle.rowan.specs.Place.{term_at, terms_below, start_of, below}
use Rattle.rowan.specs.Around.{first}
use Rattle.rowan.specs.Leaves.{tokens_back}
use Rattle.rowan.proofs.Leaves.{count_in}
use Rattle.rowan.proofs.cursor.SyntaxNode.+token_before.Given as goal

abbrev pub decreases-token_before : goal.decreases-token_before
decreases-token_before l = count_in (term_at l.self.now)

abbrev pub invariant-loop-child : goal.invariant-loop-child
invariant-loop-child l = record {
  at_end : l.end ≡ start_of (below l.self l.count);
  within : l.count ≤ length (terms_below l.self);
  none_so_far : first (tokens_back l.self l.fn.count) ≡ first (tokens_back l.self l.count);
}

abbrev pub decreases-loop-child : goal.decreases-loop-child
decreases-loop-child l = l.count
