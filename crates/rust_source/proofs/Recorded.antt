-- What is recorded, as a list of changes.
use Rattle.std.proofs.Common.{◌≡◌, ℕ, Bool, true, false, List, [], ◌∷◌, not, ◌&&◌, if◌then◌else◌, ap, ◌∙◌}
use Rattle.tree_rewrite.specs.Change.{Change, insert, replace}
use Rattle.syntax_tree.specs.Element.{Element}
use Rattle.syntax_editor.specs.Editing.{untouched, with_changes}
use Rattle.syntax_editor.specs.Recording.{BadTarget, Foreign, Recorded, inserting, is_gap, is_one_node, is_root, is_target, replacing, with_single}

inserted-by : (b : Bool) (all cs : List Change) → (if b then Recorded all else Foreign) ≡ Recorded cs → cs ≡ all
inserted-by false all cs h = absurd (let z : Foreign ≡ Recorded cs = h in cc)
inserted-by true all cs h = let z : Recorded all ≡ Recorded cs = h in cc

replaced-by : (a b : Bool) (all cs : List Change) → (if a then Foreign else if b then BadTarget else Recorded all) ≡ Recorded cs → cs ≡ all
replaced-by true b all cs h = absurd (let z : Foreign ≡ Recorded cs = h in cc)
replaced-by false true all cs h = absurd (let z : BadTarget ≡ Recorded cs = h in cc)
replaced-by false false all cs h = let z : Recorded all ≡ Recorded cs = h in cc

-- one element is inserted with another, and then one is replaced
pub two-changes :
    (top p x : Element) (i : ℕ) (new es : List Element) (first both : List Change) → inserting (untouched top) p i new ≡ Recorded first
    → replacing (with_changes (untouched top) first) x es ≡ Recorded both → both ≡ insert p.place.up i new ∷ (replace x.place.up 0 es true ∷ [])
two-changes top p x i new es first both inserted replaced =
    let one : first ≡ insert p.place.up i new ∷ [] = inserted-by (is_gap top p i) (insert p.place.up i new ∷ []) first inserted in
    replaced-by (not (is_target top x)) (is_root x.place.up && not (is_one_node es)) (with_single first x.place.up es) both replaced
    ∙ ap (λ (cs : List Change). with_single cs x.place.up es) one
