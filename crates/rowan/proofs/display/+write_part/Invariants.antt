use Rattle.std.proofs.Common.{◌≡◌, ℕ, List, ◌++◌, ◌+◌, ◌≤◌, take, drop}
use Rattle.std.specs.Fmt.{HasWritten, IsPlainFormatter}
use Rattle.rowan_green.specs.Forest.{tree_count, tree_text}
use Rattle.rowan.specs.ChildParts.{range_of, rest_count, IsRange}
use Rattle.rowan.proofs.display.+write_part.Given as goal

abbrev pub decreases-write_part : goal.decreases-write_part
decreases-write_part g l = tree_count l.node.now

-- what is written and what is left are all
abbrev pub invariant-loop-part : goal.invariant-loop-part
invariant-loop-part g l = record {
  range : IsRange l.part-iterator.children l.part-iterator.skip l.part-iterator.len;
  below : rest_count l.part-iterator + 1 ≤ tree_count l.node;
  done : (done : List ℕ) × (done ++ range_of l.part-iterator ≡ take l.len (drop l.skip (tree_text l.node))) × (IsPlainFormatter l.initial.f → HasWritten g.W.Write.write_str_gives l.initial.f done l.f);
}
