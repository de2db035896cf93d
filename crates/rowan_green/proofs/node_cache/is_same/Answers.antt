use Rattle.std.proofs.Common.{sym, ◌∙◌}
use Rattle.std.proofs.lemmas.Bool.{OnTrue_from}
use Rattle.rowan_green.specs.Same.{same_tree-Decides}
use Rattle.rowan_green.proofs.node_cache.is_same.Goals as goal

pub returns-then-eq-2 : goal.returns-then-eq-2
returns-then-eq-2 c =
    let d = same_tree-Decides c.as_ref.result c.as_ref-then-eq-2.result in
    OnTrue_from _ _ (λ p. sym c.as_ref.ensures ∙ d.0 (sym c.same_node.ensures ∙ p) ∙ c.as_ref-then-eq-2.ensures)
