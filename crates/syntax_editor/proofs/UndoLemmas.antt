-- Recorded deletions, undone one after another.
use Rattle.std.proofs.Common.{◌≡◌, ℕ, ◌-◌, ◌<◌, List, [], ◌∷◌, ◌++◌, length, take, set, get_or, Bool, true, false, ◌&&◌, not, cond, refl, ap, sym, ◌∙◌, subst, arith, length-set}
use Rattle.std.specs.HashMap.{HashMap}
use Rattle.std.specs.Map.{lookup}
use Rattle.std.proofs.Math.Seq.{take-append_seam}
use Rattle.std.proofs.lemmas.List.{set-set, length-append}
use Rattle.std.proofs.lemmas.List.Elements.{All-push}
use Rattle.syntax_tree.specs.Element.{Way, same_way, Element}
use Rattle.tree_rewrite.specs.Change.{Change, insert, replace}
use Rattle.tree_rewrite.specs.Recorded.{recorded}
use Rattle.syntax_editor.specs.Editing.{Editing, with_changes}
use Rattle.syntax_editor.specs.Noted.{AreNoted}
use Rattle.syntax_editor.specs.ByWay.{way_of}
use Rattle.syntax_editor.specs.declared.by_way.Named.{Named}
use Rattle.syntax_editor.specs.Recording.{Foreign, BadTarget, Recorded, is_target, is_root, is_one_node, over, with_single, replacing}
use Rattle.syntax_editor.specs.Undo.{undone, all_undone, IsWithin, AreWithin, IsSoundUndo, Undoes, IsUndoOf}
use Rattle.syntax_editor.specs.declared.undo.Undo.{Undo}
use Rattle.syntax_editor.specs.declared.undo.Undo.TheVariants.{Remove, Restore}
use Rattle.syntax_editor.proofs.NotedLemmas.{first-there}
use Rattle.syntax_editor.proofs.Singles.{with_single-none, with_single-some}

-- ---- the last first

pub undone-last : (us : List Undo) (u : Undo) (cs : List Change) → all_undone (us ++ u ∷ []) cs ≡ all_undone us (undone u cs)
undone-last [] u cs = refl
undone-last (v ∷ us) u cs = ap (undone v) (undone-last us u cs)

pub within-last : (us : List Undo) (u : Undo) (cs : List Change) → AreWithin (us ++ u ∷ []) cs → IsWithin u cs × AreWithin us (undone u cs)
within-last [] u cs h = (h.0, tt)
within-last (v ∷ us) u cs h =
    let rest = within-last us u cs h.1 in
    (rest.0, (subst (IsWithin v) (undone-last us u cs) h.0, rest.1))

within-more : (us : List Undo) (u : Undo) (cs : List Change) → IsWithin u cs → AreWithin us (undone u cs) → AreWithin (us ++ u ∷ []) cs
within-more [] u cs h k = (h, tt)
within-more (v ∷ us) u cs h k = (subst (IsWithin v) (sym (undone-last us u cs)) k.0, within-more us u cs h k.1)

-- ---- one more

pub all_but_last : {X : Type 0} (xs : List X) (x : X) → take (length (xs ++ x ∷ []) - 1) (xs ++ x ∷ []) ≡ xs
all_but_last xs x =
    let n : length (xs ++ x ∷ []) - 1 ≡ length xs = omega (arith, length-append xs (x ∷ [])) in
    ap (λ k. take k (xs ++ x ∷ [])) n ∙ take-append_seam xs (x ∷ [])

-- a deletion that is recorded, by the element's path
deleted-is : (e : Editing) (x : Element) (cs : List Change) → replacing e x [] ≡ Recorded cs → cs ≡ with_single e.changes x.place.up []
deleted-is e x cs h = by_tests (not (is_target e.top x)) (is_root x.place.up && not (is_one_node [])) (with_single e.changes x.place.up []) h
  where
    by_tests : (a b : Bool) (ds : List Change) → cond a Foreign (cond b BadTarget (Recorded ds)) ≡ Recorded cs → cs ≡ ds
    by_tests true b ds is = cc
    by_tests false true ds is = cc
    by_tests false false ds is = cc

-- it is undone
single-undone : (w : Way) (cs : List Change) (u : Undo) → IsUndoOf w cs u → IsWithin u (with_single cs w []) × (undone u (with_single cs w []) ≡ cs)
single-undone w cs Remove h = (
  tt,
  ap (λ (l : List Change). take (length l - 1) l) (with_single-none cs w [] h) ∙ all_but_last cs (replace w 0 [] true),
)
single-undone w cs (Restore n c) h =
    let d : Change = insert [] 0 [] in
    let new : Change = over (get_or cs n d) (replace w 0 [] true) in
    let is : with_single cs w [] ≡ set cs n new = with_single-some cs w [] n d h.0 in
    let within : n < length (set cs n new) = omega (arith, (first-there w cs n d h.0).0, length-set cs n new) in (
      subst (λ (l : List Change). n < length l) (sym is) within,
      ap (λ (l : List Change). set l n (recorded c)) is ∙ set-set cs n new (recorded c) ∙ h.1,
    )

pub undoes-more :
    (e : Editing) (x : Element) (us : List Undo) (u : Undo) (cs old : List Change) → IsUndoOf x.place.up e.changes u → IsSoundUndo e.top u → replacing e x [] ≡ Recorded cs
    → Undoes e.top us e.changes old → Undoes e.top (us ++ u ∷ []) cs old
undoes-more e x us u cs old of sound h undoes =
    let is : cs ≡ with_single e.changes x.place.up [] = deleted-is e x cs h in
    let parts = single-undone x.place.up e.changes u of in
    let within : IsWithin u cs = subst (IsWithin u) (sym is) parts.0 in
    let back : undone u cs ≡ e.changes = ap (undone u) is ∙ parts.1 in
    record {
      sound = All-push (IsSoundUndo e.top) us u undoes.sound sound;
      within = within-more us u cs within (subst (AreWithin us) (sym back) undoes.within);
      back = undone-last us u cs ∙ ap (all_undone us) back ∙ undoes.back;
    }

-- ---- all of them

pub editor-back : (e f : Editing) (us : List Undo) → f ≡ with_changes e f.changes → all_undone us f.changes ≡ e.changes → with_changes f (all_undone us f.changes) ≡ e
editor-back e f us rest back = ap (λ (v : Editing). with_changes v (all_undone us f.changes)) rest ∙ ap (with_changes e) back

-- an empty map has what is noted of no change
pub nothing-noted : {S : Type 0} (m : HashMap Named ℕ S) (cs : List Change) → m.entries ≡ [] → AreNoted m 0 cs
nothing-noted m cs empty = record {
  within = omega arith;
  singles = record { singles = λ w. ap (lookup (λ k. same_way w (way_of k.0))) empty };
}
