-- What the executed changes of an overlay say of its target tree: names for the parts that contracts share. Only proofs use it.
use Rattle.std.specs.Prelude.{ℕ, List, Option, slice_get}
use Rattle.std.specs.Global.{Vec}
use Rattle.syntax_tree.specs.Element.{Way, Element}
use Rattle.tree_rewrite.specs.Marked.{Sheet}
use Rattle.tree_rewrite.specs.Rewrite.{Job}
use Rattle.tree_rewrite.specs.Recorded.{target_of}
use Rattle.tree_rewrite.specs.Fill.{Given, laid, IsGiven, HaveGiven}
use Rattle.tree_rewrite.specs.Filling.{LeadTo}
use Rattle.tree_rewrite.specs.Below.{lists_of, AreLists, OnSheet}
use Rattle.tree_rewrite.specs.Pieces.{Stand}
use Rattle.tree_rewrite.specs.declared.fill.Level.{Level}
use Rattle.tree_rewrite.specs.declared.overlay.Overlay.{Overlay}

-- the executed change at an index is that of this planned change, and its pieces are these terms
abbrev pub IsShown : Overlay → ℕ → Given → Type 0
IsShown o a g = IsGiven o.jobs.now (slice_get o.made.now a) g

-- so are those at these indices; the last index belongs to the first planned change
abbrev pub AreShown : Overlay → List ℕ → List Given → Type 0
AreShown o ns gs = HaveGiven o.jobs.now o.made.now ns gs

-- the contents of the gaps and slots of the target tree after these changes
abbrev pub shown : Overlay → List Given → Sheet
shown o gs = laid gs (target_of o.target)

-- in a target tree `n`, the executed changes in the list of a child of the node at `w` leave the child as all of `gs` do
abbrev pub AreSpread : Overlay → List (Vec ℕ) → Option Way → Way → List Given → Type 0
AreSpread o ls n w gs = AreLists o.jobs.now o.made.now (lists_of ls) n w gs

-- so in the target tree of the overlay
abbrev pub AreListed : Overlay → Level → Way → List Given → Type 0
AreListed o l w gs = AreSpread o l.lists.items (target_of o.target) w gs

-- the executed changes at these indices leave the target tree as all of these planned changes do
abbrev pub AreAllOn : Overlay → List ℕ → List Job → Type 0
AreAllOn o ns js = OnSheet o.jobs.now o.made.now ns (target_of o.target) js

-- the remaining children of the open nodes `ls`, the innermost of which is at `w`, lead from `s` to `t`
abbrev pub LeadOn : Overlay → Element → Way → List Level → Stand → Stand → Type 0
LeadOn o e w ls s t = LeadTo o.jobs.now o.made.now (target_of o.target) e w ls s t
