use Rattle.std.proofs.Common.{◌≡◌, ◌∷◌, slice_get, refl, sym, ap, ◌∙◌, subst}
use Rattle.std.proofs.lemmas.Bool.{eqb-true}
use Rattle.syntax_tree.specs.Element.{Way, term_of}
use Rattle.syntax_tree.specs.Handle.{element_of}
use Rattle.tree_rewrite.specs.Marked.{origin_at}
use Rattle.tree_rewrite.specs.Moved.{way_above}
use Rattle.tree_rewrite.specs.Recorded.{target_of}
use Rattle.tree_rewrite.specs.Fill.{laid, at_gap, standing}
use Rattle.tree_rewrite.specs.Filling.{child_in, LeadTo}
use Rattle.tree_rewrite.specs.Below.{lists_of}
use Rattle.tree_rewrite.specs.Pieces.{added, after}
use Rattle.tree_rewrite.proofs.SheetLemmas.{none_given, adds-same}
use Rattle.tree_rewrite.proofs.FillLemmas.{child-agree, child-whole}
use Rattle.tree_rewrite.proofs.FillingLemmas.{lead_by, added-more}
use Rattle.tree_rewrite.proofs.overlay.Overlay.push_child.Goals as goal

pub returns-then-is_empty-clause-terms : goal.returns-then-is_empty-clause-terms
returns-then-is_empty-clause-terms c = λ gs e ls s t h at lead.
    let all = c.args.self.now.jobs.now in
    let ps = c.args.self.now.made.now in
    let n = target_of c.args.self.now.target in
    let w = c.args.path.now in
    let i = c.args.level.now.index in
    let x = element_of c.args.child in
    let own = h i c.list_at-numbers.result.now (ap (λ l. slice_get (lists_of l) i) (sym c.deref.ensures.value) ∙ c.list_at-numbers.ensures) in
    let none = none_given all ps c.list_at-numbers.result.now own.0 (eqb-true _ 0 (sym c.is_empty.ensures ∙ c.if-is_empty.true)) own.1 in
    let read = child-whole own.0 n e w i x none at ∙ child-agree (laid own.0 n) (laid gs n) e w i (term_of x) own.2 in
    lead_by all ps n e w w ls _ _ (child_in gs n e w i x) s t refl (adds-same _ _ _ _ read c.in_ok-push_whole.ensures) lead

pub returns-clause-terms : goal.returns-clause-terms
returns-clause-terms c = λ gs e ls s t h at lead.
    let all = c.args.self.now.jobs.now in
    let ps = c.args.self.now.made.now in
    let n = target_of c.args.self.now.target in
    let w = c.args.path.now in
    let i = c.args.level.now.index in
    let x = element_of c.args.child in
    let own = h i c.list_at-numbers.result.now (ap (λ l. slice_get (lists_of l) i) (sym c.deref.ensures.value) ∙ c.list_at-numbers.ensures) in
    let gap = at_gap own.0 n w i in
    let o = standing (laid own.0 n) e (i ∷ w) (term_of x) in
    let old = after c.args.pieces.now.items s in
    let mid = after c.push_gap.new.pieces.items s in
    let pushed = c.in_ok-push_gap.ensures own.0 own.1 in
    let way : c.push.new.self ≡ i ∷ w = c.in_ok-push.ensures in
    let same : added (child_in gs n e w i x) old ≡ added o mid =
    ap (λ m. added m old) (sym (child-agree (laid own.0 n) (laid gs n) e w i (term_of x) own.2)) ∙ sym (added-more gap o old) ∙ ap (added o) (sym (pushed.says s)) in
    let P : Way → Type 0 = λ v. LeadTo all ps n e (way_above v) ls (added (standing (laid own.0 n) e v (term_of x)) mid) t in
    let lead-in = subst P (sym way) (subst (λ z. LeadTo all ps n e w ls z t) same lead) in
    c.enter.ensures.terms own.0 e ls s t own.1 (at ∙ ap (λ v. (origin_at e v).origin) (sym way)) lead-in
