use Rattle.std.proofs.Common.{ℕ, ◌<◌, take, Option}
use Rattle.rowan_green.specs.Forest.{tree_count, tree_text}
use Rattle.rowan.specs.Text.{IsCut, IsCharAt}
use Rattle.rowan.proofs.text_search.char_in.Given as goal

-- what is found in the inner node is what is found in the whole
abbrev pub invariant-down : goal.invariant-down
invariant-down l = record {
  cut : IsCut (tree_text l.inside) l.end;
  before : l.byte < l.end;
  found : (r : Option ℕ) → IsCharAt (take l.end (tree_text l.inside)) l.byte r → IsCharAt (take l.fn.end (tree_text l.fn.node)) l.fn.byte r;
}

abbrev pub decreases-down : goal.decreases-down
decreases-down l = tree_count l.inside
