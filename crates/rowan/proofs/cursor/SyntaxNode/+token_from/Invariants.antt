use Rattle.std.proofs.Common.{◌≡◌, ◌-◌, length}
use Rattle.rowan.specs.Place.{term_at, terms_below, start_of, below}
use Rattle.rowan.specs.Around.{first}
use Rattle.rowan.specs.Leaves.{tokens_from}
use Rattle.rowan.proofs.Leaves.{count_in}
use Rattle.rowan.proofs.cursor.SyntaxNode.+token_from.Given as goal

abbrev pub decreases-token_from : goal.decreases-token_from
decreases-token_from l = count_in (term_at l.self.now)

abbrev pub invariant-loop-child : goal.invariant-loop-child
invariant-loop-child l = record {
  at_offset : l.offset ≡ start_of (below l.self l.index);
  none_so_far : first (tokens_from l.self l.fn.index) ≡ first (tokens_from l.self l.index);
}

abbrev pub decreases-loop-child : goal.decreases-loop-child
decreases-loop-child l = length (terms_below l.self) - l.index
