use Rattle.std.proofs.Common.{◌≡◌, ◌≤◌, take, sum_by}
use Rattle.rowan_green.specs.Term.{term_len}
use Rattle.rowan_green.proofs.element_search.find_by_scan.Given as goal

abbrev pub invariant-loop-index : goal.invariant-loop-index
invariant-loop-index l = (l.start ≡ sum_by term_len (take l.index l.elements)) × (l.start ≤ l.offset) × (l.looks ≡ l.index)
