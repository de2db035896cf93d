use Rattle.std.proofs.Common.{arith}
use Rattle.rowan.proofs.Texts.{sub_end, sub_part, sub_value}
use Rattle.rowan.proofs.syntax_text.SyntaxText.slice.Goals as goal

pub overflow_add-start : goal.overflow_add-start
overflow_add-start c =
    let k = sub_end _ _ _ _ c.self.invariant c.self.view_is _ c.requires.ends.0 in
    omega (arith, c.args.range.ordered)

pub overflow_add-end : goal.overflow_add-end
overflow_add-end c =
    let k = sub_end _ _ _ _ c.self.invariant c.self.view_is _ c.requires.ends.0 in
    omega arith

pub invariant_of-result : goal.invariant_of-result
invariant_of-result c =
    rw c.in_ok-green.ensures.cases (sub_part _ _ _ _ c.self.invariant c.self.view_is _ _ c.args.range.ordered c.requires.begins c.requires.ends)

pub returns : goal.returns
returns c =
    rw c.in_ok-green.ensures.cases (sub_value _ _ _ _ c.self.invariant c.self.view_is _ _ c.requires.ends.0)
