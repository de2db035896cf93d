use Rattle.std.proofs.Common.{sym, ◌∙◌, ap, arith}
use Rattle.std.proofs.lemmas.Bool.{eq-eqb, and_from}
use Rattle.syntax_tree.specs.Element.{element_at}
use Rattle.syntax_tree.specs.Mapping.{image_of}
use Rattle.syntax_tree.proofs.Mappings.{image_of-found, image_of-passed, number_differs, way_differs}
use Rattle.syntax_tree.proofs.mapping.SyntaxMapping.image_at.Goals as goal
use Rattle.syntax_tree.proofs.mapping.SyntaxMapping.image_at.Goals.{else-tree-via-then-tree+in_ok-stands_at+else-branch, else-tree-via-else-tree}

pub returns-then-branch : goal.returns-then-branch
returns-then-branch c = λ t.
    let e = element_at c.args.tree t c.args.way.now in
    let same = and_from _ _ (eq-eqb _ _ (sym c.tree.ensures ∙ c.if-tree.true)) (sym c.in_ok-stands_at.ensures ∙ c.if-branch.true) in
    let found = image_of-found c.self.inside.entries.items c.loop-before.before c.index.result.now e (omega arith) c.loop-before.invariant.within c.index.ensures same in
    sym found ∙ sym (c.loop-before.invariant.others_differ t) ∙ ap (λ ms. image_of ms e) c.self.view_is

pub loop-before-preserved : goal.loop-before-preserved
loop-before-preserved c = record {
  within = omega (arith, c.loop-before.invariant.within);
  others_differ = λ t. c.loop-before.invariant.others_differ t ∙ elim c.else-tree.branch [
    | else-tree-via-then-tree+in_ok-stands_at+else-branch w ↦
        image_of-passed c.self.inside.entries.items c.loop-before.before c.index.result.now (element_at c.args.tree t c.args.way.now) (omega arith) c.loop-before.invariant.within c.index.ensures
        (way_differs _ _ (sym w.in_ok-stands_at.ensures ∙ w.if-branch.false))
    | else-tree-via-else-tree w ↦
        image_of-passed c.self.inside.entries.items c.loop-before.before c.index.result.now (element_at c.args.tree t c.args.way.now) (omega arith) c.loop-before.invariant.within c.index.ensures
        (number_differs _ _ _ (λ same. w.if-tree.false (c.tree.ensures ∙ same)))
  ];
}
