use Rattle.std.proofs.Common.{◌≡◌, ◌+◌, ◌≤◌, take, drop}
use Rattle.rowan_green.specs.Forest.{tree_count, tree_text}
use Rattle.rowan.specs.ChildParts.{range_of, rest_count, IsRange}
use Rattle.rowan.proofs.chunks.+read_part.Given as goal

abbrev pub decreases-read_part : goal.decreases-read_part
decreases-read_part g l = tree_count l.node.now

-- what comes of the rest is what comes of all
abbrev pub invariant-loop-part : goal.invariant-loop-part
invariant-loop-part g l = record {
  can : g.R.ChunkReader.can_read l.reader (range_of l.part-iterator);
  range : IsRange l.part-iterator.children l.part-iterator.skip l.part-iterator.len;
  below : rest_count l.part-iterator + 1 ≤ tree_count l.node;
  place : l.place + l.part-iterator.len ≡ l.at + l.len;
  rest : (x : _) → g.R.ChunkReader.reads l.reader l.place (range_of l.part-iterator) x → g.R.ChunkReader.reads l.initial.reader l.at (take l.len (drop l.skip (tree_text l.node))) x;
}
