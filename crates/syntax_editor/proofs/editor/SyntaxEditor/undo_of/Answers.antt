-- The copy is one of the first change of the element.
use Rattle.std.proofs.Common.{◌≡◌, ◌<◌, List, [], length, map, set, get_or, Some, ap, sym, ◌∙◌, subst, arith}
use Rattle.std.proofs.lemmas.List.{get_or-map, length-map, set-get_or}
use Rattle.tree_rewrite.specs.Change.{Change, insert}
use Rattle.tree_rewrite.specs.Recorded.{recorded}
use Rattle.syntax_editor.specs.ByWay.{way_of}
use Rattle.syntax_editor.specs.Editing.{Editing}
use Rattle.syntax_editor.specs.Inside.{IsSound}
use Rattle.syntax_editor.specs.Noted.{first_single}
use Rattle.syntax_editor.proofs.Deletions.{sound-again}
use Rattle.syntax_editor.proofs.NotedLemmas.{first-there}
use Rattle.syntax_editor.proofs.editor.SyntaxEditor.undo_of.Goals as goal

pub index-requires : goal.index-requires
index-requires c =
    let e = c.args.self.now in
    let w = way_of c.args.element.now in
    let some : first_single w e.changes ≡ Some c.in-Some.index = sym c.in_ok-index.ensures.number ∙ c.in-Some.is in
    let there = first-there w e.changes c.in-Some.index (insert [] 0 []) some in
    let items = c.self.inside.changes.items in
    let view = ap (λ (v : Editing). length v.changes) c.self.view_is in
    let same = ap (λ (v : Editing). length v.changes) c.in_ok-index.ensures.same in
    omega (arith, there.0, length-map items recorded, view, same)

pub returns-clause-undo : goal.returns-clause-undo
returns-clause-undo c =
    let e = c.args.self.now in
    let n = c.in-Some.index in
    let w = way_of c.args.element.now in
    let items = c.self.inside.changes.items in
    let x = c.index.result.now in
    let copy = c.in_ok-change.change in
    let some : first_single w e.changes ≡ Some n = sym c.in_ok-index.ensures.number ∙ c.in-Some.is in
    let there = first-there w e.changes n (insert [] 0 []) some in
    let changes : map recorded items ≡ e.changes = ap (λ (v : Editing). v.changes) c.self.view_is ∙ ap (λ (v : Editing). v.changes) c.in_ok-index.ensures.same in
    let within : n < length items = omega (arith, there.0, length-map items recorded, ap (λ (l : List Change). length l) changes) in
    let is : recorded copy ≡ get_or e.changes n (recorded copy) =
    c.in_ok-change.ensures.same
    ∙ ap recorded c.index.ensures
    ∙ sym (get_or-map recorded items n x (recorded copy) within)
    ∙ ap (λ (l : List Change). get_or l n (recorded copy)) changes in (
      some,
      ap (set e.changes n) is ∙ set-get_or e.changes n (recorded copy),
    )

pub returns-clause-sound : goal.returns-clause-sound
returns-clause-sound c =
    let e = c.args.self.now in
    let n = c.in-Some.index in
    let w = way_of c.args.element.now in
    let root = c.self.inside.root in
    let items = c.self.inside.changes.items in
    let x = c.index.result.now in
    let copy = c.in_ok-change.change in
    let some : first_single w e.changes ≡ Some n = sym c.in_ok-index.ensures.number ∙ c.in-Some.is in
    let there = first-there w e.changes n (insert [] 0 []) some in
    let changes : map recorded items ≡ e.changes = ap (λ (v : Editing). v.changes) c.self.view_is ∙ ap (λ (v : Editing). v.changes) c.in_ok-index.ensures.same in
    let within : n < length items = omega (arith, there.0, length-map items recorded, ap (λ (l : List Change). length l) changes) in
    let top : root ≡ e.top = ap (λ (v : Editing). v.top) c.self.view_is ∙ ap (λ (v : Editing). v.top) c.in_ok-index.ensures.same in
    let sound : IsSound root x = subst (IsSound root) (sym c.index.ensures) (c.self.invariant.1 n x within) in
    let made = c.in_ok-change.ensures in
    subst (λ t. IsSound t copy) top (sound-again root x copy made.same made.ordered (made.own root) sound)
