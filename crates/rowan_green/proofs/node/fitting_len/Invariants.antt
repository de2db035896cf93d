use Rattle.std.proofs.Common.{◌≡◌, ◌<◌, ◌^◌, take, sum_by}
use Rattle.rowan_green.specs.Term.{term_len}
use Rattle.rowan_green.proofs.node.fitting_len.Given as goal

abbrev pub invariant-loop-child : goal.invariant-loop-child
invariant-loop-child l = (l.text_len ≡ sum_by term_len (take l.child-index l.children)) × (l.text_len < 2 ^ 32)
