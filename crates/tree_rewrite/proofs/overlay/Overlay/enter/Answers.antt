use Rattle.std.proofs.Common.{◌≡◌, Some, None, false, length, sym, ap, ◌∙◌, subst}
use Rattle.rowan_green.specs.declared.utility_types.NodeOrToken.TheVariants.{Node, Token}
use Rattle.rowan.specs.Place.{term_at, kind_at}
use Rattle.syntax_tree.specs.Element.{Element, term_of}
use Rattle.syntax_tree.specs.Handle.{element_of}
use Rattle.tree_rewrite.specs.Marked.{Marked, nothing, inner, slot, blank, or_own, origin_at, reading_of, filled}
use Rattle.tree_rewrite.specs.Moved.{way_above}
use Rattle.tree_rewrite.specs.Recorded.{target_of}
use Rattle.tree_rewrite.specs.Fill.{laid, standing}
use Rattle.tree_rewrite.specs.Filling.{LeadTo}
use Rattle.tree_rewrite.specs.Pieces.{added, after, after_piece}
use Rattle.tree_rewrite.specs.declared.piece.Piece.TheVariants.{Close}
use Rattle.tree_rewrite.proofs.SheetLemmas.{adds-same, adds-join, added-nothing}
use Rattle.tree_rewrite.proofs.FillLemmas.{none_of, standing-whole, standing-token}
use Rattle.tree_rewrite.proofs.FillingLemmas.{lead_by, open-node, new-node}
use Rattle.tree_rewrite.proofs.overlay.Overlay.enter.Goals as goal

pub returns-then-not-is_touched-clause-terms : goal.returns-then-not-is_touched-clause-terms
returns-then-not-is_touched-clause-terms c = λ gs e ls s t h at lead.
    let all = c.args.self.now.jobs.now in
    let ps = c.args.self.now.made.now in
    let n = target_of c.args.self.now.target in
    let w = c.args.path.now in
    let x = element_of c.args.element in
    let own = standing (laid gs n) e w (term_of x) in
    let none : laid gs n (slot w) ≡ None = none_of (laid gs n (slot w)) (sym (c.in_ok-push_slot.ensures.replaced gs h) ∙ c.if-branch.false) in
    let kept = adds-same _ _ _ nothing (ap (λ y. or_own y nothing) none) (c.in_ok-push_slot.ensures.added gs h) in
    let depth : length w ≡ c.depth.result = sym c.depth.ensures in
    let whole = standing-whole gs n e w (term_of x) (ap term_of (sym at)) none (c.if-not-is_touched.ensures.blank gs w h depth) in
    let read = ap (λ y. reading_of blank (element_of y)) (sym c.in-Node.is) ∙ ap (reading_of blank) at ∙ whole in
    lead_by all ps n e (way_above w) c.pop-then-not-is_touched.new.self ls _ _ own s t c.pop-then-not-is_touched.ensures
    (adds-join _ _ _ nothing own kept (adds-same _ _ _ own read c.in_ok-push_whole-in-Node.ensures)) lead

pub returns-in_ok-push_whole-in-Token-clause-terms : goal.returns-in_ok-push_whole-in-Token-clause-terms
returns-in_ok-push_whole-in-Token-clause-terms c = λ gs e ls s t h at lead.
    let all = c.args.self.now.jobs.now in
    let ps = c.args.self.now.made.now in
    let n = target_of c.args.self.now.target in
    let w = c.args.path.now in
    let x = element_of c.args.element in
    let own = standing (laid gs n) e w (term_of x) in
    let none : laid gs n (slot w) ≡ None = none_of (laid gs n (slot w)) (sym (c.in_ok-push_slot.ensures.replaced gs h) ∙ c.if-branch.false) in
    let kept = adds-same _ _ _ nothing (ap (λ y. or_own y nothing) none) (c.in_ok-push_slot.ensures.added gs h) in
    let term : term_of x ≡ Some (Token c.green-stands.result.now) =
    ap (λ y. term_of (element_of y)) c.in-Token.is ∙ ap term_at (sym c.cursor.ensures) ∙ c.green-stands.ensures in
    let read = ap (λ y. reading_of blank (element_of y)) (sym c.in-Token.is) ∙ ap (reading_of blank) at ∙ standing-token gs n e w c.green-stands.result.now (ap term_of (sym at) ∙ term) none ∙ sym (ap (standing (laid gs n) e w) term) in
    lead_by all ps n e (way_above w) c.pop-in-Token.new.self ls _ _ own s t c.pop-in-Token.ensures
    (adds-join _ _ _ nothing own kept (adds-same _ _ _ own read c.in_ok-push_whole-in-Token.ensures)) lead

pub returns-in_ok-push-in-Node-clause-terms : goal.returns-in_ok-push-in-Node-clause-terms
returns-in_ok-push-in-Node-clause-terms c = λ gs e ls s t h at lead.
    let all = c.args.self.now.jobs.now in
    let ps = c.args.self.now.made.now in
    let n = target_of c.args.self.now.target in
    let w = c.args.path.now in
    let x = element_of c.args.element in
    let none : laid gs n (slot w) ≡ None = none_of (laid gs n (slot w)) (sym (c.in_ok-push_slot.ensures.replaced gs h) ∙ c.if-branch.false) in
    let kept = adds-same _ _ _ nothing (ap (λ y. or_own y nothing) none) (c.in_ok-push_slot.ensures.added gs h) in
    let depth : length w ≡ c.depth-in-Node.result = sym c.depth-in-Node.ensures in
    let level = c.in_ok-level-in-Node.level in
    let node : Element = c.in-Node.node in
    let here : x ≡ node = ap element_of c.in-Node.is in
    let term : term_of node ≡ Some (Node c.green-stands-in-Node.result.now) = ap term_at (sym c.cursor-in-Node.ensures) ∙ c.green-stands-in-Node.ensures in
    let own : node ≡ (origin_at e w).origin = sym here ∙ at in
    let new = c.in_ok-level-in-Node.ensures.new e w own in
    let below = filled (laid gs n) e w level.index new.is_open.left.rest in
    let terms : Marked = inner (record { origin = node; put = false }) (kind_at node.place) below nothing in
    let read : standing (laid gs n) e w (term_of x) ≡ terms = ap (λ y. standing (laid gs n) e w (term_of y)) here ∙ new-node (laid gs n) e w level node c.green-stands-in-Node.result.now new own term none in
    let old = after c.args.pieces.now.items s in
    let mid = after c.push_slot.new.pieces.items s in
    let same : added (standing (laid gs n) e w (term_of x)) old ≡ after_piece Close (added below (after c.push.new.self.items s)) =
    ap (λ m. added m old) read ∙ ap (added terms) (sym (kept.says s ∙ added-nothing old)) ∙ open-node c.push_slot.new.pieces.items c.push.new.self.items node below s c.in_ok-push-in-Node.ensures.items in
    (gs, c.in_ok-level-in-Node.ensures.lists gs w h depth, new.is_open.left, subst (λ z. LeadTo all ps n e (way_above w) ls z t) same lead)
