-- What the crate of annotated elements finds, by the numbers of the annotations.
use Rattle.std.proofs.Common.{◌≡◌, map, ◌∙◌, ap}
use Rattle.std.proofs.lemmas.Result.{IfOk-weaker}
use Rattle.annotated_elements.specs.Annotated.{annotated, elements_at, elements_of}
use Rattle.syntax_editor.proofs.FoundAgain.{seen-again}
use Rattle.syntax_editor.specs.Again.{annotated_at, numbered, found_again}
use Rattle.syntax_editor.specs.Editing.{Editing}
use Rattle.syntax_editor.specs.Inside as inside
use Rattle.syntax_editor.specs.Rewriting.{rewriting}
use Rattle.syntax_editor.proofs.editor.SyntaxEditor.annotated_in.Goals as goal

pub returns : goal.returns
returns c are =
    let m = rewriting c.args.self.now in
    let root = c.args.root.now in
    let held = c.self.inside.annotations.items in
    let ms = c.self.inside.mapping in
    let same : map (annotated_at root) (annotated ms (map numbered (map inside.annotated held)) m) ≡ map (annotated_at root) (found_again c.args.self.now) =
    ap (λ (e : Editing). map (annotated_at root) (annotated e.mapping (map numbered e.annotations) m)) c.self.view_is in
    IfOk-weaker c.annotated.result _ _
    (λ v h. seen-again ms held v.items m root (h ∙ ap (λ xs. elements_at root (annotated ms (elements_of xs) m)) c.deref.ensures.value) ∙ same)
    (c.annotated.ensures m are)
