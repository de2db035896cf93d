-- All entries are passed: what is laid are the steps.
use Rattle.std.proofs.Common.{◌∙◌, [], List, ap, reverse}
use Rattle.parser_events.specs.Nodes.{Entry}
use Rattle.parser_events.specs.Seen.{state_of}
use Rattle.parser_events.specs.Unwinding.{Unwound, unwind}
use Rattle.parser_events.proofs.Unwound.{unwind-end, unwind-all, state}
use Rattle.parser_events.proofs.unwinding.unwind.Goals as goal

pub returns : goal.returns
returns c f is =
    let passed_all = unwind-end c.args.events.now c.entries.index (state_of c.entries.unwinding) _ c.entries-test.false c.entries.invariant.1 in
    ap (λ (s : Unwound). s.laid)
    (c.in_ok-enter-2.ensures ∙ passed_all ∙ ap (λ (es : List Entry). unwind (reverse es) (state [] [])) is ∙ unwind-all f)
