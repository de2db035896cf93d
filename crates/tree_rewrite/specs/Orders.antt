-- Orders in which planned changes may be executed one at a time.
use Rattle.std.specs.Prelude.{ℕ, List, [], ◌∷◌, length, Option, Some, None, Bool, true, false, ◌&&◌, ◌||◌, not, nat_eq, nat_lt, slice_get}
use Rattle.std.specs.List.{list_all}
use Rattle.syntax_tree.specs.Element.{Way, same_way, Element}
use Rattle.tree_rewrite.specs.Change.{Change, insert, replace}
use Rattle.tree_rewrite.specs.Marked.{Marked, reading_of}
use Rattle.tree_rewrite.specs.Rewrite.{Job, same_sheet, puts}

-- Planned changes are numbered from 0, in recorded order.

-- there is a planned change, and it passes the test
abbrev pub test_at : (Job → Bool) → Option Job → Bool
test_at p None = false
test_at p (Some j) = p j

-- the target tree of the planned change is the payload that replaces this node
abbrev pub is_owned : Option Way → Job → Bool
is_owned None i = false
is_owned (Some w) i = same_sheet i.sheet (Some w)

-- the target tree of the second planned change is the payload of the first
abbrev pub owns : Option Job → Option Job → Bool
owns None i = false
owns (Some j) i = test_at (λ v. is_owned j.own v) i

abbrev pub same_gap_at : Change → Change → Bool
same_gap_at (insert p a new) (insert q b others) = same_way p q && nat_eq a b
same_gap_at (insert p a new) (replace first n others single) = false
same_gap_at (replace first n new single) d = false

-- both planned changes insert into the same gap
abbrev pub same_gap : Option Job → Option Job → Bool
same_gap None i = false
same_gap (Some j) i = test_at (λ v. same_sheet j.sheet v.sheet && same_gap_at j.change v.change) i

-- the planned change `b` may come after `a`: they differ, `b` does not apply to the payload of `a`, and if both insert into the same gap, `b` was recorded later
abbrev pub may_follow : List Job → ℕ → ℕ → Bool
may_follow js a b = not (nat_eq a b) && (not (owns (slice_get js a) (slice_get js b)) && (not (same_gap (slice_get js a) (slice_get js b)) || nat_lt a b))

-- each is the index of a planned change, and may be followed by all later ones
abbrev pub in_order : List Job → List ℕ → Bool
in_order js [] = true
in_order js (a ∷ os) = nat_lt a (length js) && (list_all (λ b. may_follow js a b) os && in_order js os)

-- an admitted order: each planned change once, those of a payload before it is inserted, those of one gap in recorded order
abbrev pub is_order : List Job → List ℕ → Bool
is_order js os = nat_eq (length os) (length js) && in_order js os

abbrev pub with_picked : Option Job → List Job → List Job
with_picked None js = js
with_picked (Some j) js = j ∷ js

-- the planned changes at these indices, the last one first, and then those before
abbrev pub picked : List Job → List ℕ → List Job → List Job
picked js [] before = before
picked js (a ∷ os) before = picked js os (with_picked (slice_get js a) before)

-- the element after the planned changes at these indices, executed one at a time
abbrev pub put_in_order : Element → List Job → List ℕ → Marked
put_in_order e js os = reading_of (puts (picked js os []) None) e
