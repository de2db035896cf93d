use Rattle.std.proofs.Common.{◌≡◌, [], ◌∷◌, ◌++◌, map, sym, ap, ◌∙◌, subst}
use Rattle.std.proofs.lemmas.Result.{IfOk-weaker, IfErr-weaker}
use Rattle.std.proofs.lemmas.List.{append-nil}
use Rattle.rowan_green.specs.Term.{children_of, forest_of, FitsNode, FitsToken}
use Rattle.rowan_green.specs.Forest.{tree_count}
use Rattle.rowan_green.specs.Leaf.{Leaf}
use Rattle.rowan_green.specs.declared.utility_types.NodeOrToken.TheVariants.{Node, Token}
use Rattle.tree_indent.specs.Shifted.{shifted_tree, FitsForest, FitsTree}
use Rattle.tree_indent.proofs.Shifting.{shifted_term, shifted-terms, whole-tree, next-child, all-below, rest-below, fits-rest, fits-children, refuses-whole, whole-fits, node-more, token-more}
use Rattle.tree_indent.proofs.trees.+shifted_tree.Goals as goal
use Rattle.tree_indent.proofs.trees.+shifted_tree.Goals.{in-Node+in_ok-shifted_tree-in-Node, in-Token+in_ok-shifted_token-in-Token}

pub loop-child-init : goal.loop-child-init
loop-child-init t c =
    let node = c.args.node.now in
    let s = c.args.shift in
    let es = c.into_iter-child-iterator.result in
    let are : es ≡ children_of node = c.into_iter-child-iterator.ensures.into_iter_gives ∙ c.children-child-items.ensures.children in
    record {
      can = tt;
      finite = tt;
      same = ap (λ l. l ++ map (shifted_term s) es) c.new-children.ensures.items ∙ ap (map (shifted_term s)) are;
      below = all-below node es are;
      made = subst (λ l. FitsForest (forest_of l)) (sym c.new-children.ensures.items) tt;
      fits = λ h. fits-children s node es are h;
    }

pub loop-child-preserved : goal.loop-child-preserved
loop-child-preserved t c =
    let s = c.args.shift in
    let made = c.loop-child.children.items in
    let more = c.push.new.self.items in
    let e = c.in-Some.child in
    let before = c.loop-child.child-iterator in
    let after = c.next.new.self in
    let first : before ≡ e ∷ after = c.in-Some.ensures.steps in
    let new = c.match-child.new in
    let is : new ≡ shifted_term s e = elim c.match-child.branch [
      | in-Node+in_ok-shifted_tree-in-Node w ↦ w.new-is ∙ ap Node w.in_ok-shifted_tree-in-Node.ensures.ok ∙ ap (shifted_term s) (sym w.in-Node.is)
      | in-Token+in_ok-shifted_token-in-Token w ↦ w.new-is ∙ ap Token w.in_ok-shifted_token-in-Token.ensures.ok ∙ ap (shifted_term s) (sym w.in-Token.is)
    ] in
    let stands : FitsForest (forest_of more) = elim c.match-child.branch [
      | in-Node+in_ok-shifted_tree-in-Node w ↦
          let n = w.in_ok-shifted_tree-in-Node in
          node-more made more new n.field-0 c.in_ok-push.ensures.items w.new-is (subst FitsTree (sym n.ensures.ok) n.ensures.fits) c.loop-child.invariant.made
      | in-Token+in_ok-shifted_token-in-Token w ↦
          let n = w.in_ok-shifted_token-in-Token in
          token-more made more new n.field-0 c.in_ok-push.ensures.items w.new-is (subst (λ (l : Leaf). FitsToken l.text) (sym n.ensures.ok) n.ensures.fits) c.loop-child.invariant.made
    ] in
    record {
      can = tt;
      finite = tt;
      same = next-child s made more [] before after e new _ first is c.in_ok-push.ensures.items c.loop-child.invariant.same;
      below = rest-below (tree_count c.args.node.now) e before after first c.loop-child.invariant.below;
      made = stands;
      fits = λ whole. fits-rest s e before after first (c.loop-child.invariant.fits whole);
    }

pub returns-clause-ok : goal.returns-clause-ok
returns-clause-ok t c =
    let node = c.args.node.now in
    let s = c.args.shift in
    let made = c.loop-child.children.items in
    let same : made ≡ map (shifted_term s) (children_of node) =
    sym (ap (λ l. made ++ map (shifted_term s) l) c.in-None.ensures.steps.0 ∙ append-nil made) ∙ c.loop-child.invariant.same in
    IfOk-weaker c.node_of.result _ _ (λ n h. h ∙ whole-tree s node c.kind.result.0 made c.kind.ensures same) c.node_of.ensures.ok

pub returns-clause-fits : goal.returns-clause-fits
returns-clause-fits t c =
    let node = c.args.node.now in
    let s = c.args.shift in
    let made = c.loop-child.children.items in
    let same : made ≡ map (shifted_term s) (children_of node) =
    sym (ap (λ l. made ++ map (shifted_term s) l) c.in-None.ensures.steps.0 ∙ append-nil made) ∙ c.loop-child.invariant.same in
    IfOk-weaker c.node_of.result _ _ (λ n h. whole-fits s node made same h c.loop-child.invariant.made) c.node_of.ensures.fits

pub returns-clause-refused : goal.returns-clause-refused
returns-clause-refused t c =
    let node = c.args.node.now in
    let s = c.args.shift in
    let made = c.loop-child.children.items in
    let same : made ≡ map (shifted_term s) (children_of node) =
    sym (ap (λ l. made ++ map (shifted_term s) l) c.in-None.ensures.steps.0 ∙ append-nil made) ∙ c.loop-child.invariant.same in
    IfErr-weaker c.node_of.result _ _
    (λ e h. refuses-whole (FitsNode made) (FitsTree (shifted_tree s node)) e (λ fits. subst FitsNode (sym (same ∙ shifted-terms s node.forest)) fits.0) h)
    c.node_of.ensures.refused
