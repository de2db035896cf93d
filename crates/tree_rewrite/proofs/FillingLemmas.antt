-- Lemmas about open nodes.
use Rattle.std.proofs.Common.{◌≡◌, List, [], ◌∷◌, ◌++◌, length, Option, Some, None, false, Result, Ok, Err, OnOk, refl, ap, sym, ◌∙◌, subst, arith}
use Rattle.rowan_green.specs.Forest.{Tree}
use Rattle.rowan_green.specs.declared.utility_types.NodeOrToken.TheVariants.{Node}
use Rattle.rowan.specs.Place.{kind_at, kind_in}
use Rattle.syntax_tree.specs.Element.{Way, Element, term_of}
use Rattle.tree_rewrite.specs.Marked.{Marked, Sheet, nothing, inner, join, origin_at, slot, filled}
use Rattle.tree_rewrite.specs.Rewrite.{Job}
use Rattle.tree_rewrite.specs.Fill.{inside, node_in, standing}
use Rattle.tree_rewrite.specs.Filling.{IsNew, Closes, LeadTo}
use Rattle.tree_rewrite.specs.Pieces.{Stand, added, after, after_piece, in_node, Adds}
use Rattle.tree_rewrite.specs.declared.fill.Level.{Level}
use Rattle.tree_rewrite.specs.declared.piece.Piece.{Piece}
use Rattle.tree_rewrite.specs.declared.piece.Piece.TheVariants.{Open, Close}
use Rattle.tree_rewrite.specs.declared.piece.Put.{Put}
use Rattle.tree_rewrite.proofs.SheetLemmas.{after-append, join-assoc}
use Rattle.tree_rewrite.proofs.FillLemmas.{standing-node}

pub added-more : (m k : Marked) (s : Stand) → added k (added m s) ≡ added (join m k) s
added-more m k s = λ j. record { done = join-assoc s.done m k j; around = s.around }

-- the end of a node, after its last gap
pub closes : (ps qs rs : List Piece) (m : Marked) → Adds ps qs m → rs ≡ qs ++ Close ∷ [] → Closes ps rs m
closes ps qs rs m a e = record { says = λ s. ap (λ l. after l s) e ∙ after-append qs (Close ∷ []) s ∙ ap (after_piece Close) (a.says s) }

-- the start of a node, whose end follows its children
pub open-node : (ps opened : List Piece) (x : Element) (f : Marked) (s : Stand) → opened ≡ ps ++ Open x ∷ []
    → added (inner (record { origin = x; put = false }) (kind_at x.place) f nothing) (after ps s) ≡ after_piece Close (added f (after opened s))
open-node ps opened x f s o =
    let here : after opened s ≡ record { done = nothing; around = in_node (after ps s).done x (after ps s).around } = ap (λ l. after l s) o ∙ after-append ps (Open x ∷ []) s in
    sym (ap (λ u. after_piece Close (added f u)) here)

-- an open node has the terms of the node at its up-path
pub new-node : (s : Sheet) (e : Element) (w : Way) (l : Level) (x : Element) (t : Tree) (n : IsNew e w l) → x ≡ (origin_at e w).origin → term_of x ≡ Some (Node t) → s (slot w) ≡ None
    → standing s e w (term_of x) ≡ inner (record { origin = x; put = false }) (kind_at x.place) (filled s e w l.index n.is_open.left.rest) nothing
new-node s e w l x t n at term none =
    let rest : n.is_open.left.rest ≡ t.forest = n.all ∙ ap (λ y. inside (term_of y)) (sym at) ∙ ap inside term in
    let mark : record { origin = x; put = false } ≡ origin_at e w = ap (λ y. record { origin = y; put = false }) at in
    let index = n.first in
    sym (standing-node s e w (term_of x) t term none) ∙ ap (node_in s e w) term ∙ sym (λ j. inner (mark j) (kind_in (term j)) (filled s e w (index j) (rest j)) nothing)

-- ---- steps that open no node
pub lead_by : (all : List Job) (ps : List Put) (n : Option Way) (e : Element) (u v : Way) (ls : List Level) (old new : List Piece) (m : Marked) (s t : Stand)
    → v ≡ u → Adds old new m → LeadTo all ps n e u ls (added m (after old s)) t → LeadTo all ps n e v ls (after new s) t
lead_by all ps n e u v ls old new m s t h a lead =
    subst (λ z. LeadTo all ps n e z ls (after new s) t) (sym h) (subst (λ z. LeadTo all ps n e u ls z t) (sym (a.says s)) lead)

pub no_items : {A : Type 0} (xs : List A) → length xs ≡ 0 → xs ≡ []
no_items [] h = refl
no_items (x ∷ xs) h = absurd (omega arith)

-- on success, by two facts
pub on_ok_both : {A E : Type 0} (r : Result A E) (P Q R : Type 0) → (P → Q → R) → OnOk r P → OnOk r Q → OnOk r R
on_ok_both (Ok a) P Q R f p q = f p q
on_ok_both (Err e) P Q R f p q = p
