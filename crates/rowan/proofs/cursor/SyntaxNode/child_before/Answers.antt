use Rattle.std.proofs.Common.{◌≡◌, ◌+◌, arith}
use Rattle.rowan.proofs.Steps.{start_before}
use Rattle.rowan.proofs.cursor.SyntaxNode.child_before.Goals as goal

pub overflow_sub-end : goal.overflow_sub-end
overflow_sub-end c =
    let n : c.args.count ≡ c.in-Some.index + 1 = omega (arith, c.in-Some.ensures) in
    (start_before c.args.self.now _ c.in-Some.index c.args.count _ c.args.end _ c.green.ensures c.in-Some-child.ensures c.text_len.ensures n c.requires.at_end).0

pub child-requires-2 : goal.child-requires-2
child-requires-2 c =
    let n : c.args.count ≡ c.in-Some.index + 1 = omega (arith, c.in-Some.ensures) in
    (start_before c.args.self.now _ c.in-Some.index c.args.count _ c.args.end _ c.green.ensures c.in-Some-child.ensures c.text_len.ensures n c.requires.at_end).1
