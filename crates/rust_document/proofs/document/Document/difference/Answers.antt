-- What was tested, test by test.
use Rattle.std.proofs.Common.{ap}
use Rattle.rust_document.specs.Step.{State}
use Rattle.rust_document.proofs.Verdicts.{foreign}
use Rattle.rust_document.proofs.DifferenceVerdicts.{answer-told, answer-verdict, answer-refused}
use Rattle.rust_document.proofs.document.Document.difference.Goals as goal

pub returns-clause-refused : goal.returns-clause-refused
returns-clause-refused c = foreign c.args.self.now c.args.editor.now _ c.is_of.ensures c.if-is_of.false

pub returns-then-is_of-clause-told : goal.returns-then-is_of-clause-told
returns-then-is_of-clause-told c =
    answer-told c.args.self.now c.args.editor.now _ _ c.rewritten_difference.result (ap (λ (s : State). s.grammar) c.self.view_is, ap (λ (s : State). s.edition) c.self.view_is) c.rewritten_difference.ensures.told

pub returns-then-is_of-clause-faithful : goal.returns-then-is_of-clause-faithful
returns-then-is_of-clause-faithful c =
    answer-verdict c.args.self.now c.args.editor.now _ _ _ c.rewritten_difference.result c.is_of.ensures c.if-is_of.true (ap (λ (s : State). s.grammar) c.self.view_is, ap (λ (s : State). s.edition) c.self.view_is)
    c.rewritten_difference.ensures.told

pub returns-then-is_of-clause-refused : goal.returns-then-is_of-clause-refused
returns-then-is_of-clause-refused c = answer-refused c.args.self.now c.args.editor.now _ c.rewritten_difference.result c.is_of.ensures c.if-is_of.true c.rewritten_difference.ensures.refused
