use Rattle.std.proofs.Common.{◌∙◌, sym, ap, Some}
use Rattle.rowan_green.specs.declared.utility_types.NodeOrToken.TheVariants.{Node, Token}
use Rattle.rowan.specs.Ranges.{here, token, down}
use Rattle.rowan.proofs.Ranges.{range_falls}
use Rattle.rowan.proofs.cursor.SyntaxNode.covering_element.Goals as goal

pub returns-in-None : goal.returns-in-None
returns-in-None c = c.loop-node.invariant (Node c.loop-node.node) (here (sym c.in_ok-child_at_range.ensures ∙ c.in-None.is))

pub returns-in-Some-Token : goal.returns-in-Some-Token
returns-in-Some-Token c =
    c.loop-node.invariant (Token c.in-Some-Token.token) (token (sym c.in_ok-child_at_range.ensures ∙ c.in-Some-Token.is ∙ ap Some c.in-Some-Token.field-0-is))

pub loop-node-smaller : goal.loop-node-smaller
loop-node-smaller c =
    range_falls c.loop-node.node c.args.start c.args.end (Node c.in-Some-Node.child) (sym c.in_ok-child_at_range.ensures ∙ c.in-Some-Node.is ∙ ap Some c.in-Some-Node.field-0-is)

pub loop-node-preserved : goal.loop-node-preserved
loop-node-preserved c = λ x h. c.loop-node.invariant x (down (sym c.in_ok-child_at_range.ensures ∙ c.in-Some-Node.is ∙ ap Some c.in-Some-Node.field-0-is) h)
