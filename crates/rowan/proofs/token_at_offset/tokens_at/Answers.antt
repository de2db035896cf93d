use Rattle.std.proofs.Common.{◌∙◌, sym, arith}
use Rattle.rowan.proofs.Beside.{none_at, right_at, inside_at, left_at, both_at}
use Rattle.rowan.proofs.token_at_offset.tokens_at.Goals as goal

pub returns-in-None : goal.returns-in-None
returns-in-None c =
    none_at c.args.offset c.args.node.now _ c.green.ensures c.requires.starts (sym c.in_default.is ∙ c.in_ok-left.ensures) (sym c.in-None.is ∙ c.in_ok-right.ensures)

pub returns-in-Some-2 : goal.returns-in-Some-2
returns-in-Some-2 c =
    right_at c.args.offset c.args.node.now _ c.green.ensures c.requires.starts c.in-Some-2.right (sym c.in_default.is ∙ c.in_ok-left.ensures) (sym c.in-Some-2.is ∙ c.in_ok-right.ensures)

pub returns-then-offset-end : goal.returns-then-offset-end
returns-then-offset-end c =
    inside_at c.args.offset c.args.node.now _ c.green.ensures c.requires.starts c.in-Some.left (sym c.in-Some.is ∙ c.in_ok-left.ensures) (omega (arith, c.if-offset-end.true, c.end.ensures.end))

pub returns-in-None-2 : goal.returns-in-None-2
returns-in-None-2 c =
    left_at c.args.offset c.args.node.now _ c.green.ensures c.requires.starts c.in-Some.left (sym c.in-Some.is ∙ c.in_ok-left.ensures) (omega (arith, c.if-offset-end.false, c.end.ensures.end)) (sym c.in-None-2.is ∙ c.in_ok-right-2.ensures)

pub returns-in-Some-3 : goal.returns-in-Some-3
returns-in-Some-3 c =
    both_at c.args.offset c.args.node.now _ c.green.ensures c.requires.starts c.in-Some.left c.in-Some-3.right (sym c.in-Some.is ∙ c.in_ok-left.ensures) (omega (arith, c.if-offset-end.false, c.end.ensures.end)) (sym c.in-Some-3.is ∙ c.in_ok-right-2.ensures)
