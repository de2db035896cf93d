-- The elements are found in the rewritten tree, and their ranges are returned.
use Rattle.std.proofs.Common.{map, ap, sym, subst, ◌∙◌}
use Rattle.std.proofs.lemmas.Result.{IfOk-weaker}
use Rattle.syntax_tree.specs.Element.{Element}
use Rattle.syntax_tree.specs.Handle.{element_of}
use Rattle.tree_rewrite.specs.Fits.{IsNode}
use Rattle.annotated_elements.specs.Found.{AreOrigins}
use Rattle.syntax_editor.specs.Again.{annotated_at, found_again}
use Rattle.syntax_editor.specs.Rewriting.{rewriting}
use Rattle.rust_document.specs.Committed.{annotated_ends, bounds_of}
use Rattle.rust_document.proofs.AnnotatedRanges.{none-annotated, ranges-found}
use Rattle.rust_document.proofs.rewrite.annotated_ranges.Goals as goal

pub returns-then-not-is_annotated : goal.returns-then-not-is_annotated
returns-then-not-is_annotated c = ap (map annotated_ends) c.new.ensures.items ∙ sym (none-annotated c.args.editor.now (c.is_annotated.ensures.0 c.if-not-is_annotated.true))

pub returns : goal.returns
returns c =
    let e = c.args.editor.now in
    let m = rewriting e in
    let is = c.in-Ok.ensures.ok in
    let are : AreOrigins m c.in-Ok.root (map element_of c.deref.result.now) =
    record {
      top = ap (λ (r : Element). r.place.up) is;
      tree = subst (λ (r : Element). IsNode m r.place.root) (sym is) c.requires.tree;
      origins = ap (map element_of) c.deref.ensures.value ∙ c.in_ok-came_from.ensures.elements m c.requires.says;
    } in
    let same = c.in_ok-found.ensures are ∙ ap (λ (r : Element). map (annotated_at r) (found_again e)) is in
    IfOk-weaker c.ranges_of.result _ _
    (λ v h. h ∙ ap (map bounds_of) c.deref-2.ensures.value ∙ ranges-found e c.args.tree _ c.in_ok-found.found.items c.requires.tree same)
    c.ranges_of.ensures
