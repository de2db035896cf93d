use Rattle.std.proofs.Common.{◌≡◌, map, length, refl, sym, ap, ◌∙◌, arith}
use Rattle.rowan.specs.Place.{term_at, children_in, terms_below}
use Rattle.rowan.specs.Around.{children}
use Rattle.syntax_tree.specs.Handle.{with_cursor}
use Rattle.tree_rewrite.specs.Marked.{origin_at}
use Rattle.tree_rewrite.proofs.FillLemmas.{all_left, left_count}
use Rattle.tree_rewrite.proofs.overlay.Overlay.open_node.Goals as goal

pub returns-clause-new : goal.returns-clause-new
returns-clause-new c = λ e w at.
    let x = (origin_at e w).origin in
    let below : terms_below c.args.node.now.place ≡ c.children.result = ap children_in (ap term_at (sym c.cursor.ensures) ∙ c.green.ensures) ∙ sym c.children.ensures.children in
    let left = all_left x c.in_ok-children.children (c.in_ok-children.ensures ∙ ap (λ y. map (with_cursor y.number) (children y.place)) at) in
    record {
      is_open = record {
        left = left;
        bound = omega (arith, c.in_ok-lists.ensures.count);
        count = omega (arith, c.in_ok-lists.ensures.count, ap length below, c.len-count.ensures.value, ap (λ y. length (terms_below y.place)) at);
      };
      first = refl;
      all = refl;
    }

pub returns-clause-size : goal.returns-clause-size
returns-clause-size c =
    let x = c.args.node.now in
    let left = all_left x c.in_ok-children.children c.in_ok-children.ensures in
    omega (arith, left_count x 0 c.in_ok-children.children left)
