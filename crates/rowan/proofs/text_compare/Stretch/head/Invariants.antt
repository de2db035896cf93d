use Rattle.std.proofs.Common.{◌≡◌, ◌-◌, length}
use Rattle.rowan_green.specs.Term.{children_of}
use Rattle.rowan.specs.Comparing.{Passes}
use Rattle.rowan.proofs.text_compare.Stretch.head.Given as goal

abbrev pub invariant-elements : goal.invariant-elements
invariant-elements l = record {
  passes : Passes 0 l.initial.self l.self;
  count : l.count ≡ length (children_of l.self.node);
}

abbrev pub decreases-elements : goal.decreases-elements
decreases-elements l = l.count - l.self.index
