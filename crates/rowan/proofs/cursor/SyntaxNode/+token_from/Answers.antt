use Rattle.std.proofs.Common.{◌≡◌, ◌+◌, ◌∙◌, ap, sym, arith, Some}
use Rattle.rowan_green.specs.declared.utility_types.NodeOrToken.TheVariants.{Node, Token}
use Rattle.rowan.specs.Place.{below}
use Rattle.rowan.specs.Around.{cursor_at, first}
use Rattle.rowan.specs.Leaves.{tokens_from}
use Rattle.rowan.proofs.Lefts.{next_offset, number_is}
use Rattle.rowan.proofs.Leaves.{tokens_none, at_token, in_node, over_empty, child_falls, child_number}
use Rattle.rowan.proofs.cursor.SyntaxNode.+token_from.Goals as goal

pub returns : goal.returns
returns t c =
    sym (c.loop-child.invariant.none_so_far ∙ ap first (tokens_none c.args.self.now c.loop-child.index (sym c.in_default.is ∙ c.in_ok-child.ensures.ok)))

pub returns-in-Token : goal.returns-in-Token
returns-in-Token t c =
    let h : Some (Token c.in-Token.token) ≡ cursor_at (below c.args.self.now c.loop-child.index) = ap Some (sym c.in-Token.is) ∙ sym c.in-Some.is ∙ c.in_ok-child.ensures.ok in
    sym (c.loop-child.invariant.none_so_far ∙ at_token c.args.self.now c.in-Token.token c.loop-child.index h)

pub token_from-requires : goal.token_from-requires
token_from-requires t c =
    let h : Some (Node c.in-Node.node) ≡ cursor_at (below c.args.self.now c.loop-child.index) = ap Some (sym c.in-Node.is) ∙ sym c.in-Some.is ∙ c.in_ok-child.ensures.ok in (
      omega (arith, child_falls c.args.self.now c.loop-child.index (Node c.in-Node.node) h),
      omega (arith, c.start.ensures.start),
    )

pub returns-in-Some-2 : goal.returns-in-Some-2
returns-in-Some-2 t c =
    let h : Some (Node c.in-Node.node) ≡ cursor_at (below c.args.self.now c.loop-child.index) = ap Some (sym c.in-Node.is) ∙ sym c.in-Some.is ∙ c.in_ok-child.ensures.ok in
    sym (c.loop-child.invariant.none_so_far ∙ in_node c.args.self.now c.in-Node.node c.in-Some-2.token c.loop-child.index h (sym c.in-Some-2.is ∙ c.in_ok-token-in-Node.ensures))

pub loop-child-smaller : goal.loop-child-smaller
loop-child-smaller t c =
    let h : Some c.in-Some.child ≡ cursor_at (below c.args.self.now c.loop-child.index) = sym c.in-Some.is ∙ c.in_ok-child.ensures.ok in
    let n = number_is c.args.self.now c.loop-child.index _ c.in-Some.child h c.index_of.ensures in
    let k = child_number c.args.self.now c.loop-child.index c.in-Some.child h in
    omega arith

pub loop-child-preserved : goal.loop-child-preserved
loop-child-preserved t c =
    let h : Some c.in-Some.child ≡ cursor_at (below c.args.self.now c.loop-child.index) = sym c.in-Some.is ∙ c.in_ok-child.ensures.ok in
    let n = number_is c.args.self.now c.loop-child.index _ c.in-Some.child h c.index_of.ensures in record {
      at_offset = next_offset c.args.self.now c.loop-child.index _ _ c.in-Some.child h c.index_of.ensures c.end_of-offset.ensures.end;
      none_so_far =
          c.loop-child.invariant.none_so_far
          ∙ over_empty c.args.self.now c.in-Node.node c.loop-child.index (ap Some (sym c.in-Node.is) ∙ h) (sym c.in_default-2.is ∙ c.in_ok-token-in-Node.ensures)
          ∙ ap (λ m. first (tokens_from c.args.self.now (m + 1))) (sym n);
    }
