-- The planned changes are executed one at a time, and every admitted order leads to the rewritten element.
use Rattle.std.proofs.Common.{◌≡◌, [], reverse, subst, sym, ap, ◌∙◌}
use Rattle.rowan_green.specs.Forest.{Tree}
use Rattle.rowan.specs.Place.{term_at}
use Rattle.syntax_tree.specs.Element.{is_node}
use Rattle.tree_rewrite.specs.Marked.{reading_of}
use Rattle.tree_rewrite.specs.Rewrite.{puts, rewritten}
use Rattle.tree_rewrite.specs.Orders.{picked, is_order}
use Rattle.tree_rewrite.specs.Recorded.{target_of}
use Rattle.tree_rewrite.specs.Fill.{laid, HavePut, HaveGiven}
use Rattle.tree_rewrite.proofs.SheetLemmas.{adds-from}
use Rattle.tree_rewrite.proofs.ExecuteLemmas.{any_order}
use Rattle.tree_rewrite.specs.Fits.{IsNode}
use Rattle.tree_rewrite.proofs.RootLemmas.{root_node}
use Rattle.tree_rewrite.proofs.plan.Plan.pieces.Goals as goal

pub returns-clause-says : goal.returns-clause-says
returns-clause-says c =
    let js = c.self.inside.jobs.items in
    let n = target_of c.of_tree-overlay.result.target in
    let os = c.args.order.now in
    let e = c.self.inside.top in
    let made = picked js os [] in
    let have = subst (λ l. HavePut l c.in_ok-made.made.items (picked l os [])) c.deref.ensures.value c.in_ok-made.ensures in
    let jobs : c.of_tree-overlay.result.jobs.now ≡ js = c.of_tree-overlay.ensures.jobs ∙ c.deref-2.ensures.value in
    let puts-made : c.of_tree-overlay.result.made.now ≡ c.in_ok-made.made.items = c.of_tree-overlay.ensures.made ∙ c.deref-3.ensures.value in
    let given = subst (λ l. HavePut l c.of_tree-overlay.result.made.now made) (sym jobs) (subst (λ v. HavePut js v made) (sym puts-made) have) in
    let same = c.in_ok-clone.ensures.cases in
    let order = any_order e js os c.self.invariant.0 c.self.invariant.1 (ap (λ p. is_order p.jobs os) c.self.view_is ∙ c.requires) in
    let on = c.in_ok-numbers.ensures made given in
    let whole = ap (reading_of (laid on.0 n)) same ∙ ap (λ x. reading_of x e) on.2 ∙ ap (λ o. reading_of (puts made o) e) c.of_tree-overlay.ensures.target ∙ order ∙ ap (λ p. rewritten p.top (reverse p.jobs)) c.self.view_is in
    let here = subst (λ l. HaveGiven c.of_tree-overlay.result.jobs.now c.of_tree-overlay.result.made.now l on.0) (sym c.deref-4.ensures.value) on.1 in
    adds-from _ _ _ _ (rewritten c.args.self.now.top (reverse c.args.self.now.jobs)) c.new-pieces.ensures.items whole (c.in_ok-push_standing.ensures on.0 here)

pub returns-clause-node : goal.returns-clause-node
returns-clause-node c =
    let js = c.self.inside.jobs.items in
    let e = c.self.inside.top in
    let node = root_node e js (ap is_node (ap term_at (sym c.cursor.ensures) ∙ c.green-stands.ensures)) c.self.invariant.2 in
    subst (λ p. (t : Tree) × IsNode (rewritten p.top (reverse p.jobs)) t) c.self.view_is node
