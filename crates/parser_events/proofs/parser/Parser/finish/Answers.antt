-- The record is unwound to the steps.
use Rattle.std.proofs.Common.{Option, List, ap, sym, subst, ◌∙◌}
use Rattle.parser_events.specs.Marked.{Marked}
use Rattle.parser_events.specs.Stack.{IsClosed, AreStepsOf}
use Rattle.parser_events.specs.View.{View, Parsed}
use Rattle.parser_events.proofs.Calls.{steps-are}
use Rattle.parser_events.proofs.parser.Parser.finish.Goals as goal

pub returns-clause-steps : goal.returns-clause-steps
returns-clause-steps c =
    let nodes = ap (λ (v : View). v.nodes) c.self.view_is in
    subst (λ (old : Option (List Marked)). AreStepsOf old c.new.result.steps) nodes
    (steps-are c.self.inside.recorder c.new.result.steps (λ none. let e = c.in_ok-steps.ensures.refused none in cc) c.self.invariant.1 (subst IsClosed (sym nodes) c.requires)
    (λ f at. ap (λ (p : Parsed). p.steps) c.new.ensures ∙ c.in_ok-steps.ensures.steps f at))

pub returns-clause-looks : goal.returns-clause-looks
returns-clause-looks c = ap (λ (p : Parsed). p.looks) c.new.ensures ∙ ap (λ (v : View). v.looks) c.self.view_is
