use Rattle.std.proofs.Common.{◌≡◌, ◌≤◌, ◌++◌, take, length, Some}
use Rattle.syntax_tree.specs.Handle.{element_of, standing_at}
use Rattle.syntax_tree.proofs.handle.SyntaxNode.element_at.Given as goal

abbrev pub invariant-loop-left : goal.invariant-loop-left
invariant-loop-left l = record {
  within : l.left ≤ length l.way;
  number : (element_of l.place).number ≡ l.self.number;
  tree : (element_of l.place).place.root ≡ l.self.place.root;
  rest : take l.left l.way ++ (element_of l.place).place.up ≡ l.way;
  stands : standing_at l.self (element_of l.place).place.up ≡ Some (element_of l.place);
}

abbrev pub decreases-loop-left : goal.decreases-loop-left
decreases-loop-left l = l.left
