use Rattle.std.proofs.Common.{◌∙◌, ap, sym, arith, rules, Some}
use Rattle.rowan.proofs.Steps.{node_here, token_here, over_child, token_len}
use Rattle.rowan.proofs.cursor.SyntaxNode.node_from.Goals as goal

pub returns-in_err-to_owned-in-Node-clause-refused : goal.returns-in_err-to_owned-in-Node-clause-refused
returns-in_err-to_owned-in-Node-clause-refused c =
    let e = c.loop-index.invariant.none_so_far ∙ node_here c.args.self.now _ c.loop-index.index c.green-green.ensures _ c.in-Node.node c.in-Some.ensures c.in-Node.is in
    rw e (search rules)

pub returns-in_err-child-in-Node-clause-refused : goal.returns-in_err-child-in-Node-clause-refused
returns-in_err-child-in-Node-clause-refused c =
    let e = c.loop-index.invariant.none_so_far ∙ node_here c.args.self.now _ c.loop-index.index c.green-green.ensures _ c.in-Node.node c.in-Some.ensures c.in-Node.is in
    rw e (search rules)

pub returns-in-Node-clause-ok : goal.returns-in-Node-clause-ok
returns-in-Node-clause-ok c =
    ap Some c.in_ok-child-in-Node.ensures
    ∙ sym (c.loop-index.invariant.none_so_far ∙ node_here c.args.self.now _ c.loop-index.index c.green-green.ensures _ c.in-Node.node c.in-Some.ensures c.in-Node.is)

pub overflow_add-offset : goal.overflow_add-offset
overflow_add-offset c =
    let o = over_child c.args.self.now _ c.loop-index.index c.green-green.ensures _ _ _ c.in-Some.ensures (c.text_len.ensures ∙ sym (token_len _ _ c.in-Token.is)) c.loop-index.invariant.at_offset in
    omega (arith, c.start.ensures.fits)

pub loop-index-preserved : goal.loop-index-preserved
loop-index-preserved c = record {
  at_offset = (over_child c.args.self.now _ c.loop-index.index c.green-green.ensures _ _ _ c.in-Some.ensures (c.text_len.ensures ∙ sym (token_len _ _ c.in-Token.is)) c.loop-index.invariant.at_offset).0;
  none_so_far = c.loop-index.invariant.none_so_far ∙ token_here c.args.self.now _ c.loop-index.index c.green-green.ensures _ _ c.in-Some.ensures c.in-Token.is;
}
