use Rattle.std.proofs.Common.{◌≡◌, ◌∙◌, ◌≤◌, ◌-◌, leb, length, take, List, ℕ, suc, ap, arith, rules}
use Rattle.std.specs.List.Sorted.{IsPartitionPoint, IsPartitionedBy}
use Rattle.std.proofs.lemmas.List.Sorted.{IsPartitionPoint-from_clause}
use Rattle.line_index.specs.Lines.{feeds, line_starts}
use Rattle.line_index.proofs.PlaceLemmas.{starts-part, starts-point}
use Rattle.line_index.proofs.line_index.LineIndex.line_of.Goals as goal

abbrev Facts : goal.After-partition_point → Type 0
Facts c = c.partition_point.result ≡ suc (feeds (take c.args.at c.args.self.now))

found : (c : goal.After-partition_point) → Facts c
found c =
    let is : c.deref.result.now ≡ line_starts c.self.inside.text.now = c.deref.ensures.value ∙ c.self.invariant in
    let parted : IsPartitionedBy (λ y. leb y c.args.at) c.deref.result.now = rw is (starts-part c.self.inside.text.now c.args.at) in
    let point = IsPartitionPoint-from_clause (λ y. leb y c.args.at) _ _ c.partition_point.ensures.partitioned parted (λ a r q k. search rules) in
    rw (← c.self.view_is)
    (starts-point c.self.inside.text.now c.args.at c.partition_point.result (rw c.self.view_is c.requires) (rw is at c.partition_point.ensures.bound) (rw is at point))

pub overflow_sub-result : goal.overflow_sub-result
overflow_sub-result c = let f : Facts c = found c in omega arith

pub returns : goal.returns
returns c = let f : Facts c = found c in omega arith
