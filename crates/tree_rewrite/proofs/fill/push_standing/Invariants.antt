use Rattle.std.proofs.Common.{reverse}
use Rattle.syntax_tree.specs.Handle.{element_of}
use Rattle.tree_rewrite.specs.Recorded.{target_of}
use Rattle.tree_rewrite.specs.Filling.{AreOpen, LeadTo, level_sizes}
use Rattle.tree_rewrite.specs.Pieces.{Stand, after}
use Rattle.tree_rewrite.proofs.fill.push_standing.Given as goal

abbrev pub invariant-loop-level : goal.invariant-loop-level
invariant-loop-level l = AreOpen (element_of l.fn.element) l.path (reverse l.levels.items)
    × ((s t : Stand) → LeadTo l.overlay.jobs.now l.overlay.made.now (target_of l.overlay.target) (element_of l.fn.element) l.initial.path (reverse l.initial.levels.items) (after l.initial.pieces.items s) t
    → LeadTo l.overlay.jobs.now l.overlay.made.now (target_of l.overlay.target) (element_of l.fn.element) l.path (reverse l.levels.items) (after l.pieces.items s) t)

abbrev pub decreases-loop-level : goal.decreases-loop-level
decreases-loop-level l = level_sizes (reverse l.levels.items)
