-- The last event is that of a tree that starts there.
use Rattle.std.proofs.Common.{arith}
use Rattle.parser_events.proofs.Extending.{moves-node, moves-split}
use Rattle.parser_events.proofs.recorder.extend_last.Goals as goal

pub returns-else-start-inner : goal.returns-else-start-inner
returns-else-start-inner c =
    moves-node c.args.events.now _ _ c.in-Close.kind _ _ c.args.outer _ _ (omega arith) c.in-Close.is c.if-start-inner.false c.saturating_sub-before.ensures c.extend_access.ensures

pub returns-else-start-inner-2 : goal.returns-else-start-inner-2
returns-else-start-inner-2 c =
    moves-split c.args.events.now _ c.in-Split.ends_in_dot _ _ c.args.outer (omega arith) c.in-Split.is c.if-start-inner-2.false
