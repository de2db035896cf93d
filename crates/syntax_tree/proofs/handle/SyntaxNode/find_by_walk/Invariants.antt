use Rattle.std.proofs.Common.{◌≡◌, map}
use Rattle.rowan.specs.Walk.{entered}
use Rattle.syntax_tree.specs.Handle.{with_cursor}
use Rattle.syntax_tree.specs.Search.{first_in, first_of}
use Rattle.syntax_tree.proofs.NestedWalks.{Nested}
use Rattle.syntax_tree.proofs.handle.SyntaxNode.find_by_walk.Given as goal

abbrev pub invariant-loop-event : goal.invariant-loop-event
invariant-loop-event l = record {
  can : (goal.iterator-loop-event).can_next l.walk;
  finite : (goal.iterator-loop-event).is_finite l.walk;
  nested : Nested l.walk;
  same : first_of l.kind l.range.start.0 l.range.end.0 l.self ≡ first_in l.kind l.range.start.0 l.range.end.0 (map (with_cursor l.self.number) (entered l.walk));
}
