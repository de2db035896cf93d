-- What is known of recorded changes, and of copies of them.
use Rattle.std.proofs.Common.{◌≡◌, ◌<◌, List, length, get_or, map, ap, sym, ◌∙◌, subst, arith}
use Rattle.std.specs.List.{All}
use Rattle.std.proofs.Math.ListN.{get_or-map}
use Rattle.std.proofs.lemmas.List.{length-map}
use Rattle.syntax_tree.specs.Element.{Element}
use Rattle.tree_rewrite.specs.Change as seen
use Rattle.tree_rewrite.specs.Recorded.{recorded, IsOrdered, KeepsOneRoot}
use Rattle.tree_rewrite.specs.declared.change.Change.{Change}
use Rattle.syntax_editor.specs.Inside.{IsSound}

pub all_ordered : (top : Element) (cs : List Change) → All (IsSound top) cs → All IsOrdered cs
all_ordered top cs h = λ k d l. (h k d l).ordered

pub all_keep : (top : Element) (cs : List Change) → All (IsSound top) cs → All KeepsOneRoot cs
all_keep top cs h = λ k d l. (h k d l).keeps

-- what is seen of them decides
pub copies_keep : (cs ds : List Change) → map recorded ds ≡ map recorded cs → All KeepsOneRoot cs → All KeepsOneRoot ds
copies_keep cs ds same h = λ k d l.
    let there : recorded (get_or cs k d) ≡ recorded (get_or ds k d) =
    sym (get_or-map recorded cs k d) ∙ ap (λ (l : List seen.Change). get_or l k (recorded d)) (sym same) ∙ get_or-map recorded ds k d in
    let within : k < length cs = omega (arith, l, length-map cs recorded, length-map ds recorded, ap (λ (l : List seen.Change). length l) same) in
    subst seen.KeepsRoot there (h k d within)
