use Rattle.std.proofs.Common.{◌≡◌, ℕ, ◌-◌, ◌++◌, ◌∷◌, [], length, map, drop, slice_index, option_copied, option_and_then, sym, ap, ◌∙◌, arith}
use Rattle.syntax_tree.specs.Element.{element_at}
use Rattle.syntax_tree.specs.Mapping.{image_of}
use Rattle.tree_rewrite.specs.WayTrie.{child_in, node_at}
use Rattle.tree_rewrite.specs.Mapped.{images_above, images_to}
use Rattle.tree_rewrite.proofs.TrieLemmas.{way_step, way_top}
use Rattle.tree_rewrite.proofs.MappedLemmas.{output_by_node, pushed}
use Rattle.tree_rewrite.proofs.mapped.MappedNodes.images.Goals as goal

pub loop-depth-init : goal.loop-depth-init
loop-depth-init c =
    let inputs = c.self.inside.inputs in
    let ms = c.self.inside.mapping.now in
    let n = c.args.tree in
    let way = c.args.way.now in
    let top : drop (length way) way ≡ [] = way_top way (length way) (omega arith) in
    record {
      within = omega arith;
      at = c.child-node.ensures ∙ sym (ap (λ v. node_at inputs (v ++ n ∷ [])) top);
      images = λ t.
          pushed c.new-images.result.items c.push.new.self.items c.output_at.result [] (image_of ms (element_at n t []))
          c.in_ok-push.ensures.items (ap (map option_copied) c.new-images.ensures.items)
          (c.output_at.ensures ∙ output_by_node inputs ms c.self.invariant n t [] c.child-node.result c.child-node.ensures)
          ∙ sym (ap (images_to ms n t) top);
    }

pub loop-depth-preserved : goal.loop-depth-preserved
loop-depth-preserved c =
    let inputs = c.self.inside.inputs in
    let ms = c.self.inside.mapping.now in
    let n = c.args.tree in
    let way = c.args.way.now in
    let e = c.loop-depth.depth in
    let d : ℕ = e - 1 in
    let inv = c.loop-depth.invariant in
    let step : drop d way ≡ slice_index way d ∷ drop e way = way_step way d e (omega arith) inv.within in
    let at : c.child-node-in-loop-depth.result ≡ node_at inputs (drop d way ++ n ∷ []) =
    c.child-node-in-loop-depth.ensures
    ∙ ap (option_and_then (λ p. child_in inputs.children p (slice_index way d))) inv.at
    ∙ sym (ap (λ v. node_at inputs (v ++ n ∷ [])) step) in
    record {
      within = omega (arith, inv.within);
      at = at;
      images = λ t.
          pushed c.loop-depth.images.items c.push-in-loop-depth.new.self.items c.output_at-in-loop-depth.result (images_to ms n t (drop e way)) (image_of ms (element_at n t (drop d way)))
          c.in_ok-push-2.ensures.items (inv.images t)
          (c.output_at-in-loop-depth.ensures ∙ output_by_node inputs ms c.self.invariant n t (drop d way) c.child-node-in-loop-depth.result at)
          ∙ sym (ap (λ v. images_above ms n t v ++ image_of ms (element_at n t (drop d way)) ∷ []) step);
    }
