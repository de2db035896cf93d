use Rattle.std.proofs.Common.{rules, arith}
use Rattle.document_requests.proofs.Shapes.{three_items, target_short, target_long}
use Rattle.document_requests.proofs.shape.target_in.Goals as goal

pub returns-in_default : goal.returns-in_default
returns-in_default c = target_short c.args.grammar _ c.in_default.len_below

pub returns-in_default-2 : goal.returns-in_default-2
returns-in_default-2 c = target_long c.args.grammar _ c.in_default.len_at_least

pub returns : goal.returns
returns c =
    let items = three_items c.args.values.now _ _ _ (omega arith) c.kind-item.is c.start-item.is c.stop-item.is in
    rw items (search rules)
