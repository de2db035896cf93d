-- All that is recorded are replacements of matches.
use Rattle.std.proofs.Common.{◌≡◌}
use Rattle.tree_replace.specs.Replacements.{OnlyReplaces}
use Rattle.tree_replace.proofs.replacing.record.Given as goal

abbrev pub invariant-loop-index : goal.invariant-loop-index
invariant-loop-index l = record {
  only : OnlyReplaces l.matches l.editor;
  same : l.source.document ≡ l.initial.source.document;
}
