-- One change more is a rename, or none of the list is one at its index.
use Rattle.std.proofs.Common.{◌≡◌, ◌+◌, ◌<◌, ◌++◌, [], ◌∷◌, List, map, take, length, get_or, sym, ◌∙◌, ap, subst, arith}
use Rattle.std.proofs.Math.ListN.{get_or-map}
use Rattle.std.proofs.lemmas.Bool.{false≢true}
use Rattle.std.proofs.lemmas.List.{length-map, map-append, take_more}
use Rattle.tree_rewrite.specs.Change.{Change}
use Rattle.tree_rewrite.specs.Recorded.{recorded}
use Rattle.tree_rewrite.specs.declared.change.Change as declared
use Rattle.rust_document.specs.Renames.{AreRenames, IsRename}
use Rattle.rust_document.proofs.RenameTests.{rename-at, renames-more}
use Rattle.rust_document.proofs.document.Document.are_renames.Goals as goal

pub loop-change-preserved : goal.loop-change-preserved
loop-change-preserved c =
    let d = c.args.self.now in
    let xs = c.args.changes.now in
    let i = c.loop-change.change-index in
    let x = c.change-item.result in
    let split : take (i + 1) xs ≡ take i xs ++ x ∷ [] = take_more xs i x c.loop-change-test.true ∙ ap (λ e. take i xs ++ e ∷ []) (sym c.change-item.is) in
    subst (λ (l : List declared.Change). AreRenames d (map recorded l)) (sym split)
    (subst (λ (l : List Change). AreRenames d l) (sym (map-append recorded (take i xs) (x ∷ [])))
    (renames-more d (map recorded (take i xs)) (recorded x) c.loop-change.invariant (c.is_rename.ensures.0 c.if-not-is_rename.false)))

pub returns-then-not-is_rename : goal.returns-then-not-is_rename
returns-then-not-is_rename c =
    let d = c.args.self.now in
    let xs = c.args.changes.now in
    let i = c.loop-change.change-index in
    let x = c.change-item.result in
    let within : i < length (map recorded xs) = omega (arith, c.loop-change-test.true, length-map xs recorded) in
    let there : get_or (map recorded xs) i (recorded x) ≡ recorded x = get_or-map recorded xs i x ∙ ap recorded (sym c.change-item.is) in (
      λ no. absurd (false≢true no),
      λ h. sym c.if-not-is_rename.true ∙ c.is_rename.ensures.1 (subst (λ (y : Change). IsRename d y) there (rename-at d (map recorded xs) i (recorded x) h within)),
    )
