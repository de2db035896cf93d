-- What makes an order of jobs end in the rewritten element.
use Rattle.std.specs.Prelude.{◌≡◌, ℕ, List, [], ◌∷◌, length, reverse, Option, Some, None, true, false, slice_get}
use Rattle.std.specs.List.{filter}
use Rattle.syntax_tree.specs.Element.{Way, Element}
use Rattle.tree_rewrite.specs.Change.{Change, has_collision}
use Rattle.syntax_tree.specs.Mapping.{Mapping}
use Rattle.tree_rewrite.specs.Marked.{Spot, slot}
use Rattle.tree_rewrite.specs.Rewrite.{Job, rewritten, jobs}
use Rattle.tree_rewrite.specs.Plan.{sets_on}
use Rattle.tree_rewrite.specs.Orders.{test_at, owns, is_order, put_in_order}

-- at each spot of this sheet the two lists set the same in the same order
abbrev pub SameAt : Option Way → List Job → List Job → Type 0
SameAt n js is = (k : Spot) → filter (sets_on n k) js ≡ filter (sets_on n k) is

abbrev pub SameOwn : Option Way → List Job → List Job → Type 0
SameOwn None js is = Unit {0}
SameOwn (Some w) js is = SameAt (Some w) js is

-- each job finds on the sheet of its payload all that will ever be set there
abbrev pub NestedFirst : List Job → List Job → Type 0
NestedFirst all [] = Unit {0}
NestedFirst all (j ∷ js) = SameOwn j.own js all × NestedFirst all js

pub record Orders (all js : List Job) : Type 0 where
  pub nested : NestedFirst all js
  pub outer : SameAt None js all
  pub long : length js ≡ length all

-- no two jobs set one slot, and none is made in its own payload
pub record IsPlan (js : List Job) : Type 0 where
  pub apart : (a b : ℕ) (n : Option Way) (w : Way) → test_at (sets_on n (slot w)) (slice_get js a) ≡ true → test_at (sets_on n (slot w)) (slice_get js b) ≡ true → a ≡ b
  pub own : (a : ℕ) → owns (slice_get js a) (slice_get js a) ≡ false

abbrev pub EveryOrder : Type 0
EveryOrder = (e : Element) (js : List Job) (os : List ℕ) → IsPlan js → is_order js os ≡ true → put_in_order e js os ≡ rewritten e (reverse js)

-- where no two recorded replacements have a common slot and each job has a place, the jobs are a plan
abbrev pub JobsArePlan : Type 0
JobsArePlan = (top : Element) (cs : List Change) (ms : Mapping) (js : List Job) → has_collision cs ≡ false → jobs top cs ms ≡ Some js → IsPlan js
