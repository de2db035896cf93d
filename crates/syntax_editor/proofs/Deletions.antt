-- Attributes and comments, one child after another; copies of changes; deletions, one after another.
use Rattle.std.proofs.Common.{◌≡◌, List, [], ◌∷◌, ◌++◌, Bool, true, false, cond, refl, ap, sym, ◌∙◌, subst, append_assoc}
use Rattle.syntax_tree.specs.Element.{Element}
use Rattle.syntax_tree.specs.declared.element.SyntaxElement.{SyntaxElement}
use Rattle.tree_rewrite.specs.Change as seen
use Rattle.tree_rewrite.specs.Recorded.{recorded, IsOrdered}
use Rattle.tree_rewrite.specs.declared.change.Change.{Change}
use Rattle.syntax_editor.specs.Attrs.{is_attr_or_doc, goes, going, and_next, deleting_each}
use Rattle.syntax_editor.specs.Between.{kind_of}
use Rattle.syntax_editor.specs.Editing.{Editing, with_changes}
use Rattle.syntax_editor.specs.Inside.{IsSound, IsOwn}
use Rattle.syntax_editor.specs.Recording.{Recorded, replacing}
use Rattle.syntax_editor.specs.Refusal.{RefusesRecord}
use Rattle.syntax_editor.specs.declared.error.RecordError.{RecordError}
use Rattle.syntax_editor.specs.declared.error.RecordError.TheVariants as records

-- ---- one child more
pub going-next : (done more left rest all : List SyntaxElement) (e : SyntaxElement) (after own it : Bool)
    → left ≡ e ∷ rest → own ≡ is_attr_or_doc (kind_of e) → it ≡ goes after (kind_of e) → more ≡ cond it (done ++ e ∷ []) done
    → done ++ going after left ≡ all → more ++ going own rest ≡ all
going-next done more left rest all e after own it first is_own is_it pushed so_far =
    ap (λ l. l ++ going own rest) pushed
    ∙ ap (λ b. cond b (done ++ e ∷ []) done ++ going own rest) is_it
    ∙ ap (λ b. cond (goes after (kind_of e)) (done ++ e ∷ []) done ++ going b rest) is_own
    ∙ by_test (goes after (kind_of e))
    ∙ ap (λ l. done ++ going after l) (sym first)
    ∙ so_far
  where
    by_test : (b : Bool) → cond b (done ++ e ∷ []) done ++ going (is_attr_or_doc (kind_of e)) rest
        ≡ done ++ cond b (e ∷ going (is_attr_or_doc (kind_of e)) rest) (going (is_attr_or_doc (kind_of e)) rest)
    by_test true = append_assoc done (e ∷ []) (going (is_attr_or_doc (kind_of e)) rest)
    by_test false = refl

-- ---- a copy of a change
pub sound-again : (top : Element) (c d : Change) → recorded d ≡ recorded c → (IsOrdered c → IsOrdered d) → (IsOwn top c → IsOwn top d) → IsSound top c → IsSound top d
sound-again top c d same ordered own h = record {
  own = own h.own;
  ordered = ordered h.ordered;
  keeps = subst seen.KeepsRoot (sym same) h.keeps;
}

-- ---- one deletion more
pub deleted-next : (e f : Editing) (x : Element) (xs : List Element) → replacing e x [] ≡ Recorded f.changes → f ≡ with_changes e f.changes
    → deleting_each f xs ≡ deleting_each e (x ∷ xs)
deleted-next e f x xs h k =
    ap (λ v. deleting_each v xs) k ∙ sym (ap (λ r. and_next r (λ cs. deleting_each (with_changes e cs) xs)) h)

pub deleted-rest : (e f g : Editing) → f ≡ with_changes e f.changes → g ≡ with_changes f g.changes → g ≡ with_changes e g.changes
deleted-rest e f g h k = k ∙ ap (λ (v : Editing). with_changes v g.changes) h

-- if one is refused, all are
pub refused-next : (e : Editing) (x : Element) (xs : List Element) (r : RecordError) → RefusesRecord (replacing e x []) r → RefusesRecord (deleting_each e (x ∷ xs)) r
refused-next e x xs records.Foreign h = ap (λ r. and_next r (λ cs. deleting_each (with_changes e cs) xs)) h
refused-next e x xs records.BadRange h = ap (λ r. and_next r (λ cs. deleting_each (with_changes e cs) xs)) h
refused-next e x xs records.BadTarget h = ap (λ r. and_next r (λ cs. deleting_each (with_changes e cs) xs)) h
refused-next e x xs records.NoMemory h = tt
