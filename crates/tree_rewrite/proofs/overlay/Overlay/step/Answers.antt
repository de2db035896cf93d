use Rattle.std.proofs.Common.{◌≡◌, ◌+◌, ◌∷◌, reverse, sym, ap, ◌∙◌, subst, arith}
use Rattle.syntax_tree.specs.Element.{term_of}
use Rattle.syntax_tree.specs.Handle.{element_of}
use Rattle.tree_rewrite.specs.Marked.{origin_at, filled}
use Rattle.tree_rewrite.specs.Moved.{way_above}
use Rattle.tree_rewrite.specs.Recorded.{target_of}
use Rattle.tree_rewrite.specs.Fill.{laid, at_gap, standing}
use Rattle.tree_rewrite.specs.Filling.{child_in, IsOpen, AreOpen, LeadTo, with_opened}
use Rattle.tree_rewrite.specs.Pieces.{added, after, after_piece}
use Rattle.tree_rewrite.specs.declared.fill.Level.{Level}
use Rattle.tree_rewrite.specs.declared.piece.Piece.TheVariants.{Close}
use Rattle.tree_rewrite.proofs.SheetLemmas.{join-assoc}
use Rattle.tree_rewrite.proofs.FillLemmas.{next_child, none_left, given, on_ok}
use Rattle.tree_rewrite.proofs.FillingLemmas.{added-more, on_ok_both}
use Rattle.tree_rewrite.proofs.PathLemmas.{reverse-last}
use Rattle.tree_rewrite.proofs.overlay.Overlay.step.Goals as goal

pub returns-in_default-clause-terms : goal.returns-in_default-clause-terms
returns-in_default-clause-terms c = λ e s t lead.
    let all = c.args.self.now.jobs.now in
    let ps = c.args.self.now.made.now in
    let n = target_of c.args.self.now.target in
    let w = c.args.path.now in
    let i = c.args.level.index in
    let gs = lead.0 in
    let left = lead.2 in
    let x = (origin_at e w).origin in
    let ls = reverse c.args.levels.now.items in
    let none = none_left x i c.args.level.children left c.in_default.ensures.steps.0 in
    let last = ap (λ f. filled (laid gs n) e w i f) none in
    let old = after c.args.pieces.now.items s in
    let rest = subst (λ m. LeadTo all ps n e (way_above w) ls (after_piece Close (added m old)) t) last lead.3 in
    on_ok_both c.close.result _ _ _
    (λ k p. subst (λ z. LeadTo all ps n e z ls (after c.close.new.pieces.items s) t) (sym p) (subst (λ z. LeadTo all ps n e (way_above w) ls z t) (sym (k.says s)) rest))
    (c.close.ensures.terms gs lead.1) c.close.ensures.path

pub returns-clause-opened : goal.returns-clause-opened
returns-clause-opened c = λ e h.
    let w = c.args.path.now in
    let i = c.args.level.index in
    let x = (origin_at e w).origin in
    let child = c.in_ok-child.child in
    let level : Level = record { children = c.next.new.self; index = i + 1; lists = c.args.level.lists } in
    let ls = reverse c.args.levels.now.items in
    let yields = given c.args.level.children c.next.new.self c.in-Some.child child c.in_ok-child.was c.in-Some.ensures.steps in
    let n = next_child x i child c.args.level.children c.next.new.self h.0.left yields in
    let again : IsOpen e w level = record { left = n.after; bound = omega (arith, n.inside_bound, h.0.count); count = h.0.count } in
    let got = c.in_ok-opened.ensures.opened e (level ∷ ls) n.at (again, h.1) in
    let back : reverse c.push.new.self.items ≡ level ∷ ls = reverse-last c.push.new.self.items c.args.levels.now.items level c.in_ok-push.ensures.items in
    on_ok c.push_opened.result _ _
    (λ q. subst (AreOpen e c.push_child.new.path) (sym (q ∙ ap (with_opened c.in_ok-opened.opened) back)) got) c.push_opened.ensures

pub returns-clause-terms : goal.returns-clause-terms
returns-clause-terms c = λ e s t lead.
    let all = c.args.self.now.jobs.now in
    let ps = c.args.self.now.made.now in
    let n = target_of c.args.self.now.target in
    let w = c.args.path.now in
    let i = c.args.level.index in
    let x = (origin_at e w).origin in
    let gs = lead.0 in
    let child = c.in_ok-child.child in
    let level : Level = record { children = c.next.new.self; index = i + 1; lists = c.args.level.lists } in
    let ls = reverse c.args.levels.now.items in
    let yields = given c.args.level.children c.next.new.self c.in-Some.child child c.in_ok-child.was c.in-Some.ensures.steps in
    let more = next_child x i child c.args.level.children c.next.new.self lead.2 yields in
    let old = after c.args.pieces.now.items s in
    let own = child_in gs n e w i (element_of child) in
    let rest = filled (laid gs n) e w (i + 1) more.after.rest in
    let read = more.reads (laid gs n) e w ∙ sym (join-assoc (at_gap gs n w i) (standing (laid gs n) e (i ∷ w) (term_of (element_of child))) rest) in
    let same : added (filled (laid gs n) e w i lead.2.rest) old ≡ added rest (added own old) = ap (λ m. added m old) read ∙ sym (added-more own rest old) in
    let lead-in = subst (λ u. LeadTo all ps n e (way_above w) ls (after_piece Close u) t) same lead.3 in
    let got = c.in_ok-opened.ensures.terms gs e (level ∷ ls) s t lead.1 more.at (gs, lead.1, more.after, lead-in) in
    let back : reverse c.push.new.self.items ≡ level ∷ ls = reverse-last c.push.new.self.items c.args.levels.now.items level c.in_ok-push.ensures.items in
    on_ok c.push_opened.result _ _
    (λ q. subst (λ z. LeadTo all ps n e c.push_child.new.path z (after c.push_child.new.pieces.items s) t) (sym (q ∙ ap (with_opened c.in_ok-opened.opened) back)) got) c.push_opened.ensures
