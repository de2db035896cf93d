use Rattle.std.proofs.Common.{◌≡◌, take, sum_by}
use Rattle.rowan_green.specs.Term.{term_len}
use Rattle.rowan_green.proofs.element_list.text_sum.Given as goal

abbrev pub invariant-loop-element : goal.invariant-loop-element
invariant-loop-element l = l.sum ≡ sum_by term_len (take l.element-index l.elements)
