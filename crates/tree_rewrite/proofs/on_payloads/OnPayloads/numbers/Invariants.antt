use Rattle.std.proofs.Common.{◌≡◌, ℕ, List, ◌++◌, reverse}
use Rattle.tree_rewrite.specs.Listed.{count_to, IsChain}
use Rattle.tree_rewrite.specs.WayMap.{number_at}
use Rattle.tree_rewrite.proofs.on_payloads.OnPayloads.numbers.Given as goal

abbrev pub invariant-loop-next : goal.invariant-loop-next
invariant-loop-next l = (ns : List ℕ) → IsChain l.self.before.items (number_at l.self.last l.way) ns
    → (rest : List ℕ) × IsChain l.self.before.items l.next rest × (ns ≡ rest ++ reverse l.numbers.items)

abbrev pub decreases-loop-next : goal.decreases-loop-next
decreases-loop-next l = count_to l.next
