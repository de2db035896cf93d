use Rattle.std.proofs.Common.{◌≡◌, ◌&&◌, [], ◌++◌, map, refl, sym, ap, ◌∙◌, append_assoc}
use Rattle.std.proofs.lemmas.List.{map-append}
use Rattle.tree_rewrite.specs.Changed.{bounds, if_changed}
use Rattle.tree_rewrite.specs.Tracking.{is_put}
use Rattle.tree_rewrite.proofs.GreenLemmas.{popped}
use Rattle.tree_rewrite.proofs.ChangedLemmas.{tracks-close}
use Rattle.tree_rewrite.proofs.changed.Tracker.leave.Goals as goal

pub returns-clause-tracks : goal.returns-clause-tracks
returns-clause-tracks c = λ s h.
    let t = c.args.self.now in
    let g = c.in-Some.field-0 in
    let last = popped t.around.items c.pop.new.self.items c.pop.result g g c.in-Some.is refl c.pop.ensures.items in
    let before : map bounds c.replace-inside.new.dest.items ≡ map bounds g.before.items = ap (λ v. map bounds v.items) (c.replace-inside.ensures.after ∙ sym (ap (λ y. y.before) c.in-Some.field-0-is)) in
    let inside : map bounds c.replace-inside.result.items ≡ map bounds t.ranges.items = ap (λ v. map bounds v.items) c.replace-inside.ensures.value in
    let start = ap (λ y. y.start) c.in-Some.field-0-is in
    let change = if_changed (g.is_node && is_put g.told) (g.start, t.offset) [] in
    let is : c.is_change.result ≡ (g.is_node && is_put g.told) = c.is_change.ensures ∙ sym (ap (λ y. y.is_node && is_put y.told) c.in-Some.field-0-is) in
    let more : map bounds c.push_if.new.to.items ≡ map bounds g.before.items ++ change =
    c.in_ok-push_if.ensures ∙ (λ j. before j ++ if_changed (is j) (sym start j, t.offset) []) in
    let all : map bounds c.push_ranges.new.to.items ≡ map bounds g.before.items ++ (change ++ map bounds t.ranges.items) =
    ap (map bounds) c.in_ok-push_ranges.ensures
    ∙ map-append bounds c.push_if.new.to.items c.replace-inside.result.items
    ∙ (λ j. more j ++ inside j)
    ∙ append_assoc (map bounds g.before.items) change (map bounds t.ranges.items) in
    tracks-close t _ g s last all refl refl h
