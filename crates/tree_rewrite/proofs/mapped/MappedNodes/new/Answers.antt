use Rattle.std.proofs.Common.{◌-◌, Some, None, cond, sym, ap, ◌∙◌, arith}
use Rattle.syntax_tree.specs.Element.{same_element, element_at}
use Rattle.syntax_tree.specs.Mapping.{or_else}
use Rattle.tree_rewrite.proofs.MappedLemmas.{last_of-more}
use Rattle.tree_rewrite.proofs.mapped.MappedNodes.new.Goals as goal

pub loop-before-preserved : goal.loop-before-preserved
loop-before-preserved c =
    let ms = c.args.mapping.now in
    let b = c.loop-before.before in
    let input = c.in-Some.entry.0.now in
    let output = c.in-Some.entry.1.now in
    record {
      within = omega (arith, c.loop-before.invariant.within);
      sound = c.in_ok-put_input.ensures.sound;
      numbers = λ n t w.
          c.in_ok-put_input.ensures.numbers n t w
          ∙ ap (λ o. or_else o (cond (same_element input (element_at n t w)) (Some (b - 1)) None)) (c.loop-before.invariant.numbers n t w)
          ∙ last_of-more ms (b - 1) b (input, output) (element_at n t w) (omega arith) (sym c.in-Some.ensures);
    }
