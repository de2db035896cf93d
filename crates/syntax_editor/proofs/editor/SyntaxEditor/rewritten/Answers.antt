-- The copies are seen as the changes are.
use Rattle.std.proofs.Common.{◌≡◌, true, List, [], map, ap, ◌∙◌, subst, IfOk, IfErr, OnOk}
use Rattle.syntax_tree.specs.Element.{Element}
use Rattle.syntax_tree.specs.Mapping.{Mapping}
use Rattle.tree_rewrite.specs.Change.{Change}
use Rattle.tree_rewrite.specs.Changed.{AreChanged}
use Rattle.tree_rewrite.specs.Fits.{IsNode, new_fits}
use Rattle.tree_rewrite.specs.Marked.{Marked}
use Rattle.tree_rewrite.specs.Pieces.{Say}
use Rattle.tree_rewrite.specs.Recorded.{recorded}
use Rattle.tree_rewrite.specs.declared.change.Change as declared
use Rattle.tree_rewrite.specs.declared.plan.Rewritten.{Rewritten}
use Rattle.syntax_editor.specs.Editing.{Editing}
use Rattle.syntax_editor.specs.Rewriting.{rewriting, RefusesRewriting}
use Rattle.syntax_editor.proofs.Sound.{all_keep, copies_keep}
use Rattle.syntax_editor.proofs.editor.SyntaxEditor.rewritten.Goals as goal

abbrev seen : Element → Mapping → List Change → Editing
seen top ms cs = record { top = top; changes = cs; mapping = ms; annotations = [] }

same-changes : (xs ys : List declared.Change) (zs : List declared.Change) → zs ≡ xs → map recorded ys ≡ map recorded zs → map recorded ys ≡ map recorded xs
same-changes xs ys zs is same = same ∙ ap (map recorded) is

same-rewriting : (e : Editing) (top : Element) (ms : Mapping) (cs ds : List Change) → rewriting (seen top ms cs) ≡ rewriting e → ds ≡ cs → rewriting (seen top ms ds) ≡ rewriting e
same-rewriting e top ms cs ds h same = ap (λ l. rewriting (seen top ms l)) same ∙ h

pub made-requires-clause-root : goal.made-requires-clause-root
made-requires-clause-root c =
    copies_keep c.self.inside.changes.items c.in_ok-changes.changes.items (same-changes _ _ _ c.deref.ensures.value c.in_ok-changes.ensures.same)
    (all_keep c.self.inside.root c.self.inside.changes.items c.self.invariant.1)

pub returns-clause-green : goal.returns-clause-green
returns-clause-green c =
    let same = same-changes _ _ _ c.deref.ensures.value c.in_ok-changes.ensures.same in
    let whole = same-rewriting c.args.self.now c.self.inside.root c.self.inside.mapping _ _ (ap rewriting c.self.view_is) same in
    subst (λ (m : Marked). IfOk c.made.result (λ (r : Rewritten). IsNode m r.green)) whole c.made.ensures.green

pub returns-clause-changed : goal.returns-clause-changed
returns-clause-changed c =
    let same = same-changes _ _ _ c.deref.ensures.value c.in_ok-changes.ensures.same in
    let whole = same-rewriting c.args.self.now c.self.inside.root c.self.inside.mapping _ _ (ap rewriting c.self.view_is) same in
    subst (λ (m : Marked). IfOk c.made.result (λ (r : Rewritten). AreChanged r.changed.items m)) whole c.made.ensures.changed

pub returns-clause-says : goal.returns-clause-says
returns-clause-says c =
    let same = same-changes _ _ _ c.deref.ensures.value c.in_ok-changes.ensures.same in
    let whole = same-rewriting c.args.self.now c.self.inside.root c.self.inside.mapping _ _ (ap rewriting c.self.view_is) same in
    subst (λ (m : Marked). IfOk c.made.result (λ (r : Rewritten). Say r.pieces.items m)) whole c.made.ensures.says

pub returns-clause-fits : goal.returns-clause-fits
returns-clause-fits c =
    let same = same-changes _ _ _ c.deref.ensures.value c.in_ok-changes.ensures.same in
    let whole = same-rewriting c.args.self.now c.self.inside.root c.self.inside.mapping _ _ (ap rewriting c.self.view_is) same in
    subst (λ (m : Marked). OnOk c.made.result (new_fits m ≡ true)) whole c.made.ensures.fits

pub returns-clause-refused : goal.returns-clause-refused
returns-clause-refused c =
    let same = same-changes _ _ _ c.deref.ensures.value c.in_ok-changes.ensures.same in
    subst (λ (e : Editing). IfErr c.made.result (RefusesRewriting e)) c.self.view_is
    (subst (λ (cs : List Change). IfErr c.made.result (RefusesRewriting (seen c.self.inside.root c.self.inside.mapping cs))) same c.made.ensures.refused)
