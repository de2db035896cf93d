use Rattle.std.proofs.Common.{◌≡◌, ◌++◌}
use Rattle.syntax_editor.specs.Attrs.{going, attrs_and_docs}
use Rattle.syntax_editor.proofs.attrs.attrs_and_docs.Given as goal

abbrev pub invariant-loop-child : goal.invariant-loop-child
invariant-loop-child l = record {
  can : (goal.iterator-loop-child).can_next l.child-iterator;
  finite : (goal.iterator-loop-child).is_finite l.child-iterator;
  same : l.gone.items ++ going l.after l.child-iterator ≡ attrs_and_docs l.node;
}
