use Rattle.std.proofs.Common.{slice_get, sym, ap, ◌∙◌}
use Rattle.tree_rewrite.specs.Marked.{nothing, or_own}
use Rattle.tree_rewrite.specs.Recorded.{target_of}
use Rattle.tree_rewrite.specs.Fill.{at_gap}
use Rattle.tree_rewrite.specs.Below.{lists_of}
use Rattle.tree_rewrite.proofs.SheetLemmas.{adds-same}
use Rattle.tree_rewrite.proofs.FillingLemmas.{closes}
use Rattle.tree_rewrite.proofs.overlay.Overlay.close.Goals as goal

pub returns-clause-terms : goal.returns-clause-terms
returns-clause-terms c = λ gs h.
    let n = target_of c.args.self.now.target in
    let i = c.args.level.now.index in
    let own = h i c.list_at-last.result.now (ap (λ l. slice_get (lists_of l) i) (sym c.deref.ensures.value) ∙ c.list_at-last.ensures) in
    let same = ap (λ y. or_own y nothing) own.2.0 in
    closes _ _ _ (at_gap gs n c.args.path.now i) (adds-same _ _ _ _ same (c.in_ok-push_gap.ensures own.0 own.1)) c.in_ok-push.ensures.items
