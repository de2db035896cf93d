use Rattle.std.proofs.Common.{arith, sym, ap, ◌∙◌}
use Rattle.std.specs.Prelude.{option_map}
use Rattle.document_requests.specs.Asked.{change}
use Rattle.document_requests.specs.Request.{change_of}
use Rattle.document_requests.proofs.Walks.{found_next, found_none, found_all}
use Rattle.document_requests.proofs.shape.changes_in.Goals as goal

pub loop-value-preserved : goal.loop-value-preserved
loop-value-preserved c =
    let found = sym c.change_of.ensures ∙ ap (option_map change) c.in-Some.is in
    found_next (change_of c.args.grammar) change c.args.values.now c.loop-value.value-index c.value-item.result c.loop-value.changes.items c.push.new.self.items c.in-Some.change _ (omega arith) c.value-item.is found c.in_ok-push.ensures.items c.loop-value.invariant

pub returns-in_default : goal.returns-in_default
returns-in_default c =
    let none = sym c.change_of.ensures ∙ ap (option_map change) c.in_default.is in
    found_none (change_of c.args.grammar) change c.args.values.now c.loop-value.value-index c.value-item.result _ _ (omega arith) c.value-item.is none c.loop-value.invariant

pub returns : goal.returns
returns c = found_all (change_of c.args.grammar) change c.args.values.now c.loop-value.value-index _ _ (omega arith) c.loop-value.invariant
