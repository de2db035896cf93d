use Rattle.std.proofs.Common.{◌+◌, [], ◌++◌, length, map, refl, sym, ap, ◌∙◌}
use Rattle.rowan.specs.Place.{text_in}
use Rattle.tree_rewrite.specs.Changed.{bounds, if_changed}
use Rattle.tree_rewrite.proofs.ChangedLemmas.{tracks-whole}
use Rattle.tree_rewrite.proofs.changed.Tracker.pass.Goals as goal

pub returns-clause-tracks : goal.returns-clause-tracks
returns-clause-tracks c = λ s h.
    let t = c.args.self.now in
    let len = c.text_len.ensures ∙ sym (ap (λ o. length (text_in o)) c.in_ok-green.ensures) in
    let added = c.in_ok-push_if.ensures ∙ ap (λ b. map bounds t.ranges.items ++ if_changed b (t.offset, t.offset + c.text_len.result.0) []) c.is_put.ensures in
    tracks-whole t _ c.args.element.now c.in_ok-green.green s c.in_ok-green.ensures (ap (λ n. t.offset + n) len) added refl refl h
