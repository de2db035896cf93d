-- The last tree is extended, or an error is closed.
use Rattle.std.proofs.Common.{List, ◌∷◌, [], ◌++◌, length, map, ap, ◌∙◌, arith}
use Rattle.std.proofs.lemmas.List.{with_items_is}
use Rattle.std.specs.Vec.{with_items}
use Rattle.parser_input.specs.Kinds.{ERROR}
use Rattle.parser_events.specs.Nodes.{Entry, Closed, extended_entries}
use Rattle.parser_events.specs.Seen.{event_of}
use Rattle.parser_events.specs.declared.event.Event.{Event}
use Rattle.parser_events.proofs.Extending.{extends-last, extends-record}
use Rattle.parser_events.proofs.recorder.Recorder.extend.Goals as goal

pub returns-then-not-extend_last : goal.returns-then-not-extend_last
returns-then-not-extend_last c =
    let made : List Event → List Entry = λ es. extended_entries c.abandon-inner.result c.innermost_start-outer.result (map event_of es) in
    let closed : List Event → List Entry = λ es. map event_of es ++ Closed ERROR c.innermost_start-outer.result ∷ [] in
    extends-record c.self-2.inside.refused (map event_of c.self-2.inside.events.items) (map event_of (with_items c.self-2.inside.events c.extend_last.new.events).items)
    c.self-2.inside.open_nodes.items _ _ _ _ _
    c.self-2.view_is c.abandon-inner.ensures.left c.abandon-inner.ensures.place c.innermost_start-outer.ensures
    (ap closed (with_items_is c.self-2.inside.events c.extend_last.new.events
    (omega (arith, c.self-2.inside.events.ok.0, ap length c.deref_mut.ensures.value))) ∙ c.if-not-extend_last.ensures ∙ ap made c.deref_mut.ensures.value) c.record.ensures

pub returns-else-not-extend_last : goal.returns-else-not-extend_last
returns-else-not-extend_last c =
    let made : List Event → List Entry = λ es. extended_entries c.abandon-inner.result c.innermost_start-outer.result (map event_of es) in
    extends-last c.self-2.inside.refused (map event_of c.self-2.inside.events.items) (map event_of (with_items c.self-2.inside.events c.extend_last.new.events).items)
    c.self-2.inside.open_nodes.items _ _ _ _
    c.self-2.view_is c.abandon-inner.ensures.left c.abandon-inner.ensures.place c.innermost_start-outer.ensures
    (ap (map event_of) (with_items_is c.self-2.inside.events c.extend_last.new.events
    (omega (arith, c.self-2.inside.events.ok.0, ap length c.deref_mut.ensures.value))) ∙ c.if-not-extend_last.ensures ∙ ap made c.deref_mut.ensures.value)
