-- The text of the tree with all recorded changes applied.
use Rattle.std.proofs.Common.{◌≡◌, ℕ, List, [], Bool, true, false, ◌&&◌, refl, sym, ap, ◌∙◌}
use Rattle.std.specs.Prelude.{Option, Some, None, not, is_some, if◌then◌else◌}
use Rattle.rowan_green.specs.Forest.{Tree, tree_text}
use Rattle.tree_rewrite.specs.Change.{has_collision}
use Rattle.tree_rewrite.specs.Fits.{IsNode, new_fits}
use Rattle.tree_rewrite.specs.Rewrite.{is_placeable, jobs}
use Rattle.syntax_editor.specs.Editing.{Editing, untouched}
use Rattle.syntax_editor.specs.Rewriting.{IsIntersecting, IsPlaceable, IsTooLong, MissesMapping, rewriting}
use Rattle.rust_document.specs.Rewrite.{rewritten}
use Rattle.rust_document.specs.Step.{State, root_element}
use Rattle.rust_document.proofs.Rewrites.{rewritten-is}
use Rattle.renamer.specs.Renamed.{renamed_text}
use Rattle.document_requests.specs.Request.{Change}
use Rattle.document_requests.specs.Session.{Prepared, Ready, Stopped, prepared}
use Rattle.document_requests.specs.declared.reply.Refusal.{Refusal}
use Rattle.kept_document.specs.Depth.{first_number, made_text, text_after, text_by}
use Rattle.kept_document.proofs.RenamedTexts.{same-text}

chosen : (placed fits : Bool) (text : List ℕ) → placed ≡ true → fits ≡ true → Some text ≡ (if placed && fits then Some text else None)
chosen placed fits text p f = rw (p, f) refl

no-place : (placed fits : Bool) (text : List ℕ) → placed ≡ false → None ≡ (if placed && fits then Some text else None)
no-place placed fits text p = rw p refl

no-room : (placed fits : Bool) (text : List ℕ) → placed ≡ true → fits ≡ false → None ≡ (if placed && fits then Some text else None)
no-room placed fits text p f = rw (p, f) refl

pub made : (e : Editing) (green : Tree) (text : List ℕ) → IsPlaceable e → new_fits (rewriting e) ≡ true → IsNode (rewriting e) green → text ≡ renamed_text [] [] green → Some text ≡ text_by e
unfolding text_by
made e green text placed fits node is =
    ap Some (is ∙ same-text [] green ∙ ap tree_text (sym (rewritten-is e green node)))
    ∙ chosen (is_placeable e.top e.changes e.mapping) (new_fits (rewriting e)) (tree_text (rewritten e)) placed fits

pub none-intersecting : (e : Editing) → IsIntersecting e → None ≡ text_by e
unfolding text_by
none-intersecting e is =
    no-place (is_placeable e.top e.changes e.mapping) (new_fits (rewriting e)) (tree_text (rewritten e)) (ap (λ (b : Bool). not b && is_some (jobs e.top e.changes e.mapping)) is)

pub none-missing : (e : Editing) → MissesMapping e → None ≡ text_by e
unfolding text_by
none-missing e is =
    no-place (is_placeable e.top e.changes e.mapping) (new_fits (rewriting e)) (tree_text (rewritten e))
    (ap (λ (b : Bool). not b && is_some (jobs e.top e.changes e.mapping)) is.0 ∙ ap is_some is.1)

pub none-long : (e : Editing) → IsTooLong e → None ≡ text_by e
unfolding text_by
none-long e is = no-room (is_placeable e.top e.changes e.mapping) (new_fits (rewriting e)) (tree_text (rewritten e)) is.0 is.1

-- what recording came to
made-by :
    (d : State) (changes : List Change) (begun : Editing) (first : ℕ) (found : Prepared) → begun ≡ untouched (root_element d) → first ≡ first_number d
    → prepared changes d begun first ≡ found → text_after found ≡ made_text d changes
unfolding made_text
made-by d changes begun first found b f p =
    sym
    (ap (λ (e : Editing). text_after (prepared changes d e (first_number d))) (sym b)
    ∙ ap (λ (n : ℕ). text_after (prepared changes d begun n)) (sym f)
    ∙ ap text_after p)

pub made-text :
    (d : State) (changes : List Change) (begun e : Editing) (first next : ℕ) → begun ≡ untouched (root_element d) → first ≡ first_number d
    → prepared changes d begun first ≡ Ready e next → text_by e ≡ made_text d changes
made-text d changes begun e first next b f p = made-by d changes begun first (Ready e next) b f p

pub no-text :
    (d : State) (changes : List Change) (begun : Editing) (first next : ℕ) (refusal : Refusal) → begun ≡ untouched (root_element d) → first ≡ first_number d
    → prepared changes d begun first ≡ Stopped refusal next → None ≡ made_text d changes
no-text d changes begun first next refusal b f p = made-by d changes begun first (Stopped refusal next) b f p
