-- What is pending goes on by one leaf.
use Rattle.std.proofs.Common.{◌<◌, length, sym, ◌∙◌, arith}
use Rattle.parser_events.proofs.Places.{pending-past, pending-none, pending-end}
use Rattle.parser_events.proofs.trivia.pending_end.Goals as goal

pub pending-preserved : goal.pending-preserved
pending-preserved c =
    let ls = c.args.lexed.now.leaves in
    let within : c.pending.end < length ls = omega arith in
    let past = pending-past ls c.pending.end _ within c.kind.ensures (sym c.is_trivia.ensures ∙ c.if-not-is_trivia.false) in
    (omega (arith, within), omega (arith, past, c.pending.invariant.1))

pub returns-clause-end : goal.returns-clause-end
returns-clause-end c =
    let ls = c.args.lexed.now.leaves in
    let none = pending-end ls c.pending.end (omega (arith, c.pending-test.false, c.len.ensures)) in
    omega (arith, none, c.pending.invariant.1)

pub returns-then-not-is_trivia-clause-end : goal.returns-then-not-is_trivia-clause-end
returns-then-not-is_trivia-clause-end c =
    let ls = c.args.lexed.now.leaves in
    let within : c.pending.end < length ls = omega arith in
    let none = pending-none ls c.pending.end _ within c.kind.ensures (sym c.is_trivia.ensures ∙ c.if-not-is_trivia.true) in
    omega (arith, none, c.pending.invariant.1)
